-- The formats of records: how names are written in a record. The member `v` has the format; it is read right after the
-- kind of the record.
use Rattle.std.specs.Prelude.{ℕ, List, codes, Option, Some, None, Result, option_and_then, if◌then◌else◌}
use Rattle.std.specs.Str.{bytes_eq}
use Rattle.serde_json.specs.Data.{Data}
use Rattle.serde_json.specs.Find.{as_str}
use Rattle.cpe_records.specs.Forms.{required_member, or_default, member_at}
use Rattle.cpe_records.specs.declared.format.Format.{Format}
use Rattle.cpe_records.specs.declared.format.Format.TheVariants.{One, Two}
use Rattle.cpe_records.specs.declared.member.Member.TheVariants as member
use Rattle.cpe_records.specs.declared.member.RecordFault.{RecordFault}

-- the format of a text; only the text `2` has one
abbrev pub format_of : List ℕ → Option Format
format_of text = if bytes_eq text (codes "2") then Some Two else None

abbrev pub format_in : Data → Option Format
format_in d = option_and_then format_of (as_str d)

-- the format of a record; if `v` is absent, the first format
abbrev pub format_at : Data → Result Format RecordFault
format_at d = required_member member.V (or_default One format_in (member_at member.V d))
