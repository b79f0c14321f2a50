-- The record of a line, with its members in the order in which they are tested.
use Rattle.std.specs.Prelude.{ℕ, List, [], ◌∷◌, codes, Bool, Option, Some, None, option_map, option_and_then, Result, Ok, Err, ok_or}
use Rattle.serde_json.specs.Data.{Data}
use Rattle.serde_json.specs.Find.{as_str, get}
use Rattle.cpe_rows.specs.cpe_name.Eleven.{Values}
use Rattle.cpe_records.specs.cpe_uri.EitherBinding.{read_any}
use Rattle.cpe_rows.specs.Valid.{is_id}
use Rattle.cpe_records.specs.FirstFault.{◌>>=◌}
use Rattle.cpe_records.specs.Forms.{or_default, tested, text_in, flag_in}
use Rattle.cpe_records.specs.Line.{json_value_of}
use Rattle.cpe_records.specs.Names.{lowered}
use Rattle.cpe_records.specs.Words.{spelled_word}
use Rattle.advise_ranges.specs.declared.advisory.Bound.{Bound}
use Rattle.advise_ranges.specs.declared.advisory.Advisory.{Advisory}
use Rattle.advise_ranges.specs.declared.edit.AdviceEdit.TheVariants as edit
use Rattle.advise_ranges.specs.declared.edit.AdviceQuery.TheVariants as query
use Rattle.advise_ranges.specs.declared.member.AdviceMember.{AdviceMember}
use Rattle.advise_ranges.specs.declared.member.AdviceMember.TheVariants as member
use Rattle.advise_ranges.specs.declared.member.AdviceReadFault.{AdviceReadFault}
use Rattle.advise_ranges.specs.declared.member.AdviceReadFault.TheVariants as fault
use Rattle.advise_ranges.specs.declared.read.Advice.{Advice}
use Rattle.advise_ranges.specs.declared.read.Advice.TheVariants.{Edit, Query}
use Rattle.advise_ranges.specs.declared.read.Bounds.{Bounds}
use Rattle.advise_ranges.specs.declared.record_kind.AdviceKind.{AdviceKind}
use Rattle.advise_ranges.specs.declared.record_kind.AdviceKind.TheVariants as record_kind

-- the key of a member, as it is written
abbrev pub advice_key_of : AdviceMember → List ℕ
advice_key_of member.Do = codes "do"
advice_key_of member.Id = codes "id"
advice_key_of member.Name = codes "name"
advice_key_of member.Start = codes "start"
advice_key_of member.End = codes "end"
advice_key_of member.StartExcluded = codes "start-excluded"
advice_key_of member.EndExcluded = codes "end-excluded"

abbrev pub advice_word : AdviceKind → List ℕ
advice_word record_kind.Item = codes "item"
advice_word record_kind.DropItem = codes "drop-item"
advice_word record_kind.Advisory = codes "advisory"
advice_word record_kind.DropAdvisory = codes "drop-advisory"
advice_word record_kind.Affected = codes "affected"
advice_word record_kind.Advisories = codes "advisories"

abbrev pub advice_kind_of : List ℕ → Option AdviceKind
advice_kind_of = spelled_word advice_word (record_kind.Item ∷ record_kind.DropItem ∷ record_kind.Advisory ∷ record_kind.DropAdvisory ∷ record_kind.Affected ∷ record_kind.Advisories ∷ [])

-- ---- forms of single members

-- the value of a member, or the fault of the member if it doesn't have its form
abbrev pub required_advice : {A : Type 0} → AdviceMember → Option A → Result A AdviceReadFault
required_advice m form = ok_or form (fault.Member m)

abbrev pub record_kind_at : Data → Result AdviceKind AdviceReadFault
record_kind_at d = required_advice member.Do (option_and_then advice_kind_of (text_in (advice_key_of member.Do) d))

-- an id has 1 to 256 visible characters
abbrev pub advisory_id_at : Data → Result (List ℕ) AdviceReadFault
advisory_id_at d = required_advice member.Id (option_and_then (tested is_id) (text_in (advice_key_of member.Id) d))

-- the name in lower case, or the place of the refusal
abbrev pub advice_named : Result Values ℕ → Result Values AdviceReadFault
advice_named (Ok w) = Ok (lowered w)
advice_named (Err place) = Err (fault.Name place)

-- the member is a text, and this text is a name in one of the two bindings
unfoldable pub name_at : Data → Result Values AdviceReadFault
name_at d = do
  text ← required_advice member.Name (text_in (advice_key_of member.Name) d)
  advice_named (read_any text)

-- a version, which has the form of an id
abbrev pub version_in : Data → Option (Option (List ℕ))
version_in d = option_map (λ v. Some v) (option_and_then (tested is_id) (as_str d))

-- a version, which may be absent
abbrev pub version_at : AdviceMember → Data → Result (Option (List ℕ)) AdviceReadFault
version_at m d = required_advice m (or_default None version_in (get (advice_key_of m) d))

-- a flag, which is `true` or `false`; if it is absent, it is `false`
abbrev pub flag_at : AdviceMember → Data → Result Bool AdviceReadFault
flag_at m d = required_advice m (flag_in (advice_key_of m) d)

-- ---- kinds

abbrev pub bound_of : Bool → Option (List ℕ) → Option Bound
bound_of excluded version = option_map (λ v. record { version = v; excluded = excluded }) version

-- the bounds: first both versions, and then whether they are excluded; a flag without its version has no effect
unfoldable pub bounds_in : Data → Result Bounds AdviceReadFault
bounds_in d = do
  start ← version_at member.Start d
  end ← version_at member.End d
  start_excluded ← flag_at member.StartExcluded d
  end_excluded ← flag_at member.EndExcluded d
  Ok (record { start = bound_of start_excluded start; end = bound_of end_excluded end })

unfoldable pub advisory_in : Data → Result Advisory AdviceReadFault
advisory_in d = do
  id ← advisory_id_at d
  name ← name_at d
  bounds ← bounds_in d
  Ok (record { id = id; name = name; start = bounds.start; end = bounds.end })

-- the record of this kind, from its members
abbrev pub advice_by : AdviceKind → Data → Result Advice AdviceReadFault
advice_by record_kind.Item d = name_at d >>= λ n. Ok (Edit (edit.Item n))
advice_by record_kind.DropItem d = name_at d >>= λ n. Ok (Edit (edit.DropItem n))
advice_by record_kind.Advisory d = advisory_in d >>= λ a. Ok (Edit (edit.Put a))
advice_by record_kind.DropAdvisory d = advisory_id_at d >>= λ id. Ok (Edit (edit.Drop id))
advice_by record_kind.Affected d = advisory_id_at d >>= λ id. Ok (Query (query.Affected id))
advice_by record_kind.Advisories d = name_at d >>= λ n. Ok (Query (query.Advisories n))

abbrev pub advice_json_of : Option Data → Result Data AdviceReadFault
advice_json_of value = ok_or value fault.Json

-- the record of a line: first a JSON value, then its kind, and then the members of this kind
unfoldable pub advice_of : List ℕ → Result Advice AdviceReadFault
advice_of line = do
  d ← advice_json_of (json_value_of line)
  v ← record_kind_at d
  advice_by v d
