-- Lemmas: names that are read from records are well-formed (NIST IR 7695, 5).
use Rattle.std.proofs.Common.{◌≡◌, ℕ, List, [], ◌∷◌, Bool, true, false, Option, Some, None, IfSome, if◌then◌else◌, codes, refl}
use Rattle.std.specs.Prelude.{Result, Ok, Err, IfOk, MatchBool, option_and_then, unwrap_or, is_none, is_some, find}
use Rattle.std.specs.List.{AllByRecursion}
use Rattle.serde_json.specs.Data.{Data}
use Rattle.serde_json.specs.Find.{get, as_str, as_object}
use Rattle.cpe_rows.specs.cpe_values.declared.value.Value.{Value}
use Rattle.cpe_rows.specs.cpe_values.declared.value.Value.TheVariants as value
use Rattle.cpe_rows.specs.cpe_values.Values.{IsValue}
use Rattle.cpe_rows.specs.cpe_name.declared.attribute.Attribute.{Attribute}
use Rattle.cpe_rows.specs.cpe_name.declared.attribute.Attribute.TheVariants.{Part, Vendor, Product, Version, Update, Edition, Language, SwEdition, TargetSw, TargetHw, Other}
use Rattle.cpe_rows.specs.cpe_name.Eleven.{Values}
use Rattle.cpe_rows.specs.cpe_name.Names.{attributes, Suits, IsName}
use Rattle.cpe_rows.specs.cpe_name.Text.{attribute_name}
use Rattle.cpe_rows.proofs.cpe_name.LowerNames.{lower_lawful}
use Rattle.cpe_fs.specs.Component.{read_component}
use Rattle.cpe_fs.specs.Grammar.{Fs}
use Rattle.cpe_fs.proofs.Components.{read_has}
use Rattle.cpe_uri.specs.EitherBinding.{begins_as_uri, read_any}
use Rattle.cpe_uri.specs.Grammar.{Uri}
use Rattle.cpe_uri.proofs.EitherBinding.{either}
use Rattle.cpe_records.specs.Forms.{required_member, or_default, member_at, list_or_empty}
use Rattle.cpe_records.specs.NameObjects.{component_in, component_at, has_attribute_shape, shaped, member_value_at, first_without, values_at}
use Rattle.cpe_records.specs.Names.{lowered, of_text, text_name, of_object, object_name, object_in, text_or, name_of_data, at_spot, named_in, name_at, all_written, successors_at}
use Rattle.cpe_records.specs.declared.format.Format.{Format}
use Rattle.cpe_records.specs.declared.format.Format.TheVariants.{One, Two}
use Rattle.cpe_records.specs.declared.member.Member.{Member}
use Rattle.cpe_records.specs.declared.member.Member.TheVariants as member
use Rattle.cpe_records.specs.declared.member.NameSpot.{NameSpot}
use Rattle.cpe_records.specs.declared.member.NameSpot.TheVariants as spot
use Rattle.cpe_records.specs.declared.member.NotName.{NotName}
use Rattle.cpe_records.specs.declared.member.NotName.TheVariants as not_name
use Rattle.cpe_records.proofs.ReadLemmas.{then_if, behind_if, all_if, required_if, some_if}

abbrev pub IsNamed : Result Values NotName → Type 0
IsNamed r = IfOk r IsName

lowered_name : (w : Values) → IsName w → IsName (lowered w)
unfolding lowered
lowered_name w h = lower_lawful w h

-- ---- a text as a name

either_name : (w : Values) (s : List ℕ) (b : Bool) → MatchBool b (Uri w s) (Fs w s) → IsName w
either_name w s true h = h.name
either_name w s false h = h.0

text_named : (text : List ℕ) → IsNamed (text_name text)
text_named text = by (read_any text) refl where
  by : (r : Result Values ℕ) → read_any text ≡ r → IsNamed (of_text r)
  by (Ok w) e = lowered_name w (either_name w text (begins_as_uri text) (either.name_has w text e))
  by (Err place) e = tt

-- ---- an object as a name

component_value : (s : List ℕ) → IfSome (read_component s) IsValue
component_value s = by (read_component s) refl where
  by : (o : Option Value) → read_component s ≡ o → IfSome o IsValue
  by (Some v) e = (read_has v s e).0
  by None e = tt

component_in_value : (d : Data) → IfSome (component_in d) IsValue
component_in_value d = by (as_str d) where
  by : (o : Option (List ℕ)) → IfSome (option_and_then read_component o) IsValue
  by (Some s) = component_value s
  by None = tt

component_at_value : (a : Attribute) (d : Data) → IfSome (component_at a d) IsValue
component_at_value a d = by (get (attribute_name a) d) where
  by : (o : Option Data) → IfSome (or_default value.Any component_in o) IsValue
  by (Some e) = component_in_value e
  by None = tt

suits : (a : Attribute) (v : Value) → IsValue v → has_attribute_shape a v ≡ true → Suits a v
suits Part v h shape = (h, shape)
suits Language v h shape = (h, shape)
suits Vendor v h shape = h
suits Product v h shape = h
suits Version v h shape = h
suits Update v h shape = h
suits Edition v h shape = h
suits SwEdition v h shape = h
suits TargetSw v h shape = h
suits TargetHw v h shape = h
suits Other v h shape = h

shaped_suits : (a : Attribute) (v : Value) → IsValue v → IfSome (shaped a v) (Suits a)
shaped_suits a v h = by (has_attribute_shape a v) refl where
  by : (b : Bool) → has_attribute_shape a v ≡ b → IfSome (if b then Some v else None) (Suits a)
  by true e = suits a v h e
  by false e = tt

value_suits : (d : Data) (a : Attribute) → IfSome (member_value_at d a) (Suits a)
value_suits d a = some_if IsValue (Suits a) (component_at a d) (shaped a) (component_at_value a d) (shaped_suits a)

there_suits : (d : Data) (a : Attribute) → is_none (member_value_at d a) ≡ false → Suits a (unwrap_or (member_value_at d a) value.Any)
there_suits d a there = by (member_value_at d a) there (value_suits d a) where
  by : (o : Option Value) → is_none o ≡ false → IfSome o (Suits a) → Suits a (unwrap_or o value.Any)
  by (Some v) e h = h
  by None e h = absurd (let wrong : ⊥ = cc in wrong)

none_found : {A : Type 0} (p : A → Bool) (xs : List A) → find p xs ≡ None → AllByRecursion (λ x. p x ≡ false) xs
none_found p [] e = tt
none_found p (x ∷ xs) e = by (none_found p xs) (p x) refl e where
  by : (find p xs ≡ None → AllByRecursion (λ y. p y ≡ false) xs) → (b : Bool) → p x ≡ b → (if b then Some x else find p xs) ≡ None → (p x ≡ false) × AllByRecursion (λ y. p y ≡ false) xs
  by more true is found = absurd (let wrong : ⊥ = cc in wrong)
  by more false is found = (is, more found)

object_whole : (d : Data) → first_without d ≡ None → IsName (values_at d)
object_whole d e =
    let h = none_found (λ a. is_none (member_value_at d a)) attributes e in
    let has : (a : Attribute) → is_none (member_value_at d a) ≡ false → Suits a (unwrap_or (member_value_at d a) value.Any) = there_suits d in (
      has Part h.0,
      (
        has Vendor h.1.0,
        (
          has Product h.1.1.0,
          (
            has Version h.1.1.1.0,
            (
              has Update h.1.1.1.1.0,
              (
                has Edition h.1.1.1.1.1.0,
                (
                  has Language h.1.1.1.1.1.1.0,
                  (has SwEdition h.1.1.1.1.1.1.1.0, (has TargetSw h.1.1.1.1.1.1.1.1.0, (has TargetHw h.1.1.1.1.1.1.1.1.1.0, (has Other h.1.1.1.1.1.1.1.1.1.1.0, tt)))),
                ),
              ),
            ),
          ),
        ),
      ),
    )

object_named : (d : Data) → IsNamed (object_name d)
unfolding object_name
object_named d = by (first_without d) refl where
  by : (a : Option Attribute) → first_without d ≡ a → IsNamed (of_object a (values_at d))
  by None e = lowered_name (values_at d) (object_whole d e)
  by (Some a) e = tt

-- ---- a text or an object as a name

object_in_named : (f : Format) (d : Data) → IfSome (object_in f d) IsNamed
object_in_named One d = tt
object_in_named Two d = by (is_some (as_object d)) where
  by : (b : Bool) → IfSome (if b then Some (object_name d) else None) IsNamed
  by true = object_named d
  by false = tt

pub name_in_named : (f : Format) (d : Data) → IfSome (name_of_data f d) IsNamed
name_in_named f d = by (as_str d) where
  by : (o : Option (List ℕ)) → IfSome (text_or (object_in f d) o) IsNamed
  by (Some text) = text_named text
  by None = object_in_named f d

pub at_spot_named : (s : NameSpot) (r : Result Values NotName) → IsNamed r → IfOk (at_spot s r) IsName
at_spot_named s (Ok w) h = h
at_spot_named s (Err (not_name.At place)) h = tt
at_spot_named s (Err (not_name.Attribute a)) h = tt

named_is : (f : Format) (m : Member) (s : NameSpot) (d : Data) → IfOk (named_in f m s d) IsName
named_is f m s d = then_if IsNamed IsName (required_member m (name_of_data f d)) (at_spot s) (required_if IsNamed m (name_of_data f d) (name_in_named f d)) (at_spot_named s)

pub name_is : (f : Format) (d : Data) → IfOk (name_at f d) IsName
unfolding name_at
name_is f d = behind_if IsName (required_member member.Name (member_at member.Name d)) (named_in f member.Name spot.Name) (named_is f member.Name spot.Name)

abbrev Anything : Data → Type 0
Anything d = Unit {0}

all_anything : (ds : List Data) → AllByRecursion Anything ds
all_anything [] = tt
all_anything (d ∷ ds) = (tt, all_anything ds)

pub successors_are : (f : Format) (d : Data) → IfOk (successors_at f d) (AllByRecursion IsName)
unfolding successors_at
successors_are f d =
    behind_if (AllByRecursion IsName) (list_or_empty member.Successors (codes "successors") d) _
    (λ ds. behind_if (AllByRecursion IsName) (all_written f ds) _
    (λ written. all_if Anything IsName (λ k. named_in f member.Successors (spot.Successor k)) 1 written (λ k x h. named_is f member.Successors (spot.Successor k) x) (all_anything written)))
