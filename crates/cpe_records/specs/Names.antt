-- Names in records. A name is written as a text: a URI or a formatted string. In the second format it may also be an
-- object of its attributes. Names are put in lower case.
use Rattle.std.specs.Prelude.{ℕ, List, codes, Bool, Option, Some, None, Result, Ok, Err, is_some, if◌then◌else◌}
use Rattle.std.specs.List.{list_all}
use Rattle.serde_json.specs.Data.{Data}
use Rattle.serde_json.specs.Find.{as_str, as_object}
use Rattle.cpe_rows.specs.cpe_name.declared.attribute.Attribute.{Attribute}
use Rattle.cpe_rows.specs.cpe_name.Eleven.{Values}
use Rattle.cpe_rows.specs.cpe_name.Lower.{lower_name}
use Rattle.cpe_uri.specs.EitherBinding.{read_any}
use Rattle.cpe_records.specs.Gives.{◌>>=◌, all_from}
use Rattle.cpe_records.specs.Forms.{required_member, member_at, list_or_empty}
use Rattle.cpe_records.specs.NameObjects.{first_without, values_at}
use Rattle.cpe_records.specs.declared.format.Format.{Format}
use Rattle.cpe_records.specs.declared.format.Format.TheVariants.{One, Two}
use Rattle.cpe_records.specs.declared.member.Member.{Member}
use Rattle.cpe_records.specs.declared.member.Member.TheVariants as member
use Rattle.cpe_records.specs.declared.member.NameSpot.{NameSpot}
use Rattle.cpe_records.specs.declared.member.NameSpot.TheVariants as spot
use Rattle.cpe_records.specs.declared.member.NotName.{NotName}
use Rattle.cpe_records.specs.declared.member.NotName.TheVariants as not_name
use Rattle.cpe_records.specs.declared.member.RecordFault.{RecordFault}
use Rattle.cpe_records.specs.declared.member.RecordFault.TheVariants as fault

-- the name with every letter in lower case
unfoldable pub lowered : Values → Values
lowered w = lower_name w

-- ---- names as texts and as objects

abbrev pub of_text : Result Values ℕ → Result Values NotName
of_text (Ok w) = Ok (lowered w)
of_text (Err place) = Err (not_name.At place)

-- the name that this text is in one of the bindings, or the place of the refusal
abbrev pub text_name : List ℕ → Result Values NotName
text_name text = of_text (read_any text)

abbrev pub of_object : Option Attribute → Values → Result Values NotName
of_object None w = Ok (lowered w)
of_object (Some a) w = Err (not_name.Attribute a)

-- the name that has the attributes of this object, or the first attribute without a value
unfoldable pub object_name : Data → Result Values NotName
object_name d = of_object (first_without d) (values_at d)

-- the name that an object is, in the second format
abbrev pub object_in : Format → Data → Option (Result Values NotName)
object_in One d = None
object_in Two d = if is_some (as_object d) then Some (object_name d) else None

abbrev pub text_or : Option (Result Values NotName) → Option (List ℕ) → Option (Result Values NotName)
text_or object (Some text) = Some (text_name text)
text_or object None = object

-- a value as a name, if it has the form of a name: a text, or an object
abbrev pub name_of_data : Format → Data → Option (Result Values NotName)
name_of_data f d = text_or (object_in f d) (as_str d)

-- whether a value has the form of a name
unfoldable pub is_written : Format → Data → Bool
is_written f d = is_some (name_of_data f d)

-- ---- names at their spots

-- the name; or, if the value is no name, the fault with the reason and the spot (where the record has the name)
abbrev pub at_spot : NameSpot → Result Values NotName → Result Values RecordFault
at_spot s (Ok w) = Ok w
at_spot s (Err (not_name.At place)) = Err (fault.Name s place)
at_spot s (Err (not_name.Attribute a)) = Err (fault.Attribute s a)

-- a value that has the form of a name, and then its name
abbrev pub named_in : Format → Member → NameSpot → Data → Result Values RecordFault
named_in f m s d = required_member m (name_of_data f d) >>= at_spot s

-- the name at the member `name`
unfoldable pub name_at : Format → Data → Result Values RecordFault
name_at f d = required_member member.Name (member_at member.Name d) >>= named_in f member.Name spot.Name

-- the list, if each item has the form of a name
abbrev pub all_written : Format → List Data → Result (List Data) RecordFault
all_written f ds = if list_all (is_written f) ds then Ok ds else Err (fault.Member member.Successors)

-- The names in an array, or none if the array is absent. First each item must have the form of a name; then each must
-- be a name. Items are counted from 1.
unfoldable pub successors_at : Format → Data → Result (List Values) RecordFault
successors_at f d = do
  ds ← list_or_empty member.Successors (codes "successors") d
  written ← all_written f ds
  all_from (λ k. named_in f member.Successors (spot.Successor k)) 1 written
