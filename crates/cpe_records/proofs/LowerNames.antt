-- Lemmas: names that are read are in lower case.
use Rattle.std.proofs.Common.{◌≡◌, ℕ, List, Bool, true, false, codes, if◌then◌else◌, refl}
use Rattle.std.specs.Prelude.{Option, Some, None, Result, Ok, Err, is_some}
use Rattle.std.specs.List.{list_all}
use Rattle.serde_json.specs.Data.{Data}
use Rattle.serde_json.specs.Find.{as_str, as_object}
use Rattle.cpe_rows.specs.cpe_name.declared.attribute.Attribute.{Attribute}
use Rattle.cpe_rows.specs.cpe_name.Eleven.{Values}
use Rattle.cpe_rows.specs.cpe_name.Lower.{lower_name}
use Rattle.cpe_rows.specs.cpe_name.Equal.{same_name-Decides}
use Rattle.cpe_uri.specs.EitherBinding.{read_any}
use Rattle.cpe_uri.proofs.Canonical.{lower_is_lower}
use Rattle.cpe_rows.specs.Names.{is_lower}
use Rattle.cpe_records.specs.FirstFault.{Yields}
use Rattle.cpe_records.specs.Forms.{required_member, member_at, list_or_empty}
use Rattle.cpe_records.specs.NameObjects.{first_without, values_at}
use Rattle.cpe_records.specs.Names.{lowered, of_text, of_object, object_name, object_in, text_or, name_of_data, at_spot, named_in, name_at, all_written, successors_at}
use Rattle.cpe_records.specs.declared.format.Format.{Format}
use Rattle.cpe_records.specs.declared.format.Format.TheVariants.{One, Two}
use Rattle.cpe_records.specs.declared.member.Member.{Member}
use Rattle.cpe_records.specs.declared.member.Member.TheVariants as member
use Rattle.cpe_records.specs.declared.member.NameSpot.{NameSpot}
use Rattle.cpe_records.specs.declared.member.NameSpot.TheVariants as spot
use Rattle.cpe_records.specs.declared.member.NotName.{NotName}
use Rattle.cpe_records.specs.declared.member.NotName.TheVariants as not_name
use Rattle.cpe_records.proofs.YieldLemmas.{then_yields, behind, all_yield}

pub lowered_is_lower : (n : Values) → is_lower (lowered n) ≡ true
unfolding is_lower lowered
lowered_is_lower n = (same_name-Decides (lower_name (lower_name n)) (lower_name n)).1 (lower_is_lower n)

-- ---- names as texts and as objects

-- whether a result, if it is a name, is in lower case
abbrev pub is_lowered : Result Values NotName → Bool
is_lowered (Ok w) = is_lower w
is_lowered (Err e) = true

of_text_lower : (r : Result Values ℕ) → is_lowered (of_text r) ≡ true
of_text_lower (Ok w) = lowered_is_lower w
of_text_lower (Err place) = refl

of_object_lower : (a : Option Attribute) (w : Values) → is_lowered (of_object a w) ≡ true
of_object_lower None w = lowered_is_lower w
of_object_lower (Some a) w = refl

object_lower : (d : Data) → is_lowered (object_name d) ≡ true
unfolding object_name
object_lower d = of_object_lower (first_without d) (values_at d)

abbrev Lowered : Option (Result Values NotName) → Type 0
Lowered (Some r) = is_lowered r ≡ true
Lowered None = Unit {0}

if_object : (b : Bool) (r : Result Values NotName) → is_lowered r ≡ true → Lowered (if b then Some r else None)
if_object true r h = h
if_object false r h = tt

object_in_lower : (f : Format) (d : Data) → Lowered (object_in f d)
object_in_lower One d = tt
object_in_lower Two d = if_object (is_some (as_object d)) (object_name d) (object_lower d)

text_or_lower : (o : Option (Result Values NotName)) (text : Option (List ℕ)) → Lowered o → Lowered (text_or o text)
text_or_lower o (Some text) h = of_text_lower (read_any text)
text_or_lower o None h = h

required_lower : (m : Member) (o : Option (Result Values NotName)) → Lowered o → Yields is_lowered (required_member m o)
required_lower m (Some r) h = h
required_lower m None h = tt

pub name_in_lower : (f : Format) (m : Member) (d : Data) → Yields is_lowered (required_member m (name_of_data f d))
name_in_lower f m d = required_lower m (name_of_data f d) (text_or_lower (object_in f d) (as_str d) (object_in_lower f d))

-- ---- names at their spots

pub at_spot_lower : (s : NameSpot) (r : Result Values NotName) → is_lowered r ≡ true → Yields is_lower (at_spot s r)
at_spot_lower s (Ok w) h = h
at_spot_lower s (Err (not_name.At place)) h = tt
at_spot_lower s (Err (not_name.Attribute a)) h = tt

named_lower : (f : Format) (m : Member) (s : NameSpot) (d : Data) → Yields is_lower (named_in f m s d)
named_lower f m s d = then_yields is_lowered is_lower (required_member m (name_of_data f d)) (at_spot s) (name_in_lower f m d) (at_spot_lower s)

pub name_lower : (f : Format) (d : Data) → Yields is_lower (name_at f d)
unfolding name_at
name_lower f d = behind is_lower (required_member member.Name (member_at member.Name d)) _ (named_lower f member.Name spot.Name)

pub successors_lower : (f : Format) (d : Data) → Yields (list_all is_lower) (successors_at f d)
unfolding successors_at
successors_lower f d =
    behind (list_all is_lower) (list_or_empty member.Successors (codes "successors") d) _
    (λ ds. behind (list_all is_lower) (all_written f ds) _
    (λ written. all_yield is_lower (λ k. named_in f member.Successors (spot.Successor k)) 1 written (λ k. named_lower f member.Successors (spot.Successor k))))
