-- The provenance of an entry. If any part of it has not the right form, the fault is that of the member `provenance`.
use Rattle.std.specs.Prelude.{[], codes, Option, Some, None, Result, Ok, option_and_then}
use Rattle.serde_json.specs.Data.{Data}
use Rattle.serde_json.specs.Find.{get, as_str, as_object}
use Rattle.cpe_rows.specs.declared.entry.Note.{Note}
use Rattle.cpe_rows.specs.declared.entry.NoteKind.{NoteKind}
use Rattle.cpe_rows.specs.declared.entry.Provenance.{Provenance}
use Rattle.cpe_records.specs.Gives.{◌>>=◌, all_from}
use Rattle.cpe_records.specs.Words.{note_kind_of}
use Rattle.cpe_records.specs.Forms.{required_member, text_or_empty, date_at, list_or_empty}
use Rattle.cpe_records.specs.declared.member.Member.TheVariants as member
use Rattle.cpe_records.specs.declared.member.RecordFault.{RecordFault}

-- the kind of a note
abbrev pub note_kind_in : Data → Result NoteKind RecordFault
note_kind_in d = required_member member.Provenance (option_and_then note_kind_of (option_and_then as_str (get (codes "kind") d)))

-- a note; an absent comment is empty
unfoldable pub note_in : Data → Result Note RecordFault
note_in d = do
  kind ← note_kind_in d
  date ← date_at member.Provenance d
  comment ← text_or_empty member.Provenance (codes "comment") d
  Ok (record { kind = kind; date = date; comment = comment })

-- the provenance that an object is; absent members are empty
unfoldable pub provenance_in : Data → Result Provenance RecordFault
provenance_in d = do
  ms ← required_member member.Provenance (as_object d)
  submitter ← text_or_empty member.Provenance (codes "submitter") d
  authority ← text_or_empty member.Provenance (codes "authority") d
  changes ← list_or_empty member.Provenance (codes "changes") d
  notes ← all_from (λ n. note_in) 1 changes
  Ok (record { submitter = submitter; authority = authority; notes = notes })

-- an absent provenance is empty
abbrev pub provenance_or_empty : Option Data → Result Provenance RecordFault
provenance_or_empty None = Ok (record { submitter = []; authority = []; notes = [] })
provenance_or_empty (Some d) = provenance_in d
