-- Lemmas: a name in lower case is a name.
use Rattle.std.proofs.Common.{◌≡◌, ℕ, Bool, true, ◌&&◌, List, [], ◌∷◌, map, refl, arith}
use Rattle.std.specs.List.{AllByRecursion}
use Rattle.std.specs.Char.{to_ascii_lowercase}
use Rattle.std.proofs.lemmas.Bool.{and_parts, and_from}
use Rattle.std.proofs.lemmas.Bool.Decides.{nat_tests}
use Rattle.cpe_values.specs.declared.value.Value.{Value}
use Rattle.cpe_values.specs.declared.value.Value.TheVariants as value
use Rattle.cpe_values.specs.Parts.{is_nothing}
use Rattle.cpe_values.specs.Spelling.{is_letter, is_digit}
use Rattle.cpe_values.specs.Values.{IsValue}
use Rattle.cpe_values.specs.Lower.{lower_value}
use Rattle.cpe_values.proofs.LowerTexts.{lower_text}
use Rattle.cpe_name.specs.Eleven.{Values}
use Rattle.cpe_name.specs.declared.attribute.Attribute.{Attribute}
use Rattle.cpe_name.specs.declared.attribute.Attribute.TheVariants.{Part, Vendor, Product, Version, Update, Edition, Language, SwEdition, TargetSw, TargetHw, Other}
use Rattle.cpe_name.specs.Names.{attributes, value_of, Suits, IsName}
use Rattle.cpe_name.specs.Lower.{lower_name}
use Rattle.cpe_name.proofs.Tags.{CodeCase, letters, digits, RegionCase, none, behind, TagCase, two, three, tag_case, tag_lawful}
use Rattle.cpe_name.proofs.WholeTexts.{value_named}
use Rattle.cpe_name.specs.Shapes.{is_plain_of, is_part_letter, is_part_body, is_language_body}

-- ---- bytes

lower_part_letter : (c : ℕ) → is_part_letter c ≡ true → is_part_letter (to_ascii_lowercase c) ≡ true
lower_part_letter c h = grind (arith, nat_tests)

lower_letter : (c : ℕ) → is_letter c ≡ true → is_letter (to_ascii_lowercase c) ≡ true
lower_letter c h = grind (arith, nat_tests)

lower_digit : (c : ℕ) → is_digit c ≡ true → is_digit (to_ascii_lowercase c) ≡ true
lower_digit c h = grind (arith, nat_tests)

-- ---- bodies

lower_part_body : (b : List ℕ) → is_part_body b ≡ true → is_part_body (map to_ascii_lowercase b) ≡ true
lower_part_body [] h = absurd cc
lower_part_body (c ∷ []) h = lower_part_letter c h
lower_part_body (c ∷ d ∷ b) h = absurd cc

lower_code : (u : List ℕ) → CodeCase u → CodeCase (map to_ascii_lowercase u)
lower_code _ (letters x y hx hy) = letters (to_ascii_lowercase x) (to_ascii_lowercase y) (lower_letter x hx) (lower_letter y hy)
lower_code _ (digits x y z hx hy hz) = digits (to_ascii_lowercase x) (to_ascii_lowercase y) (to_ascii_lowercase z) (lower_digit x hx) (lower_digit y hy) (lower_digit z hz)

lower_region : (v : List ℕ) → RegionCase v → RegionCase (map to_ascii_lowercase v)
lower_region _ none = none
lower_region _ (behind u code) = behind (map to_ascii_lowercase u) (lower_code u code)

-- a tag in lower case is a tag
pub lower_tag : (t : List ℕ) → TagCase t → TagCase (map to_ascii_lowercase t)
lower_tag _ (two a b v ha hb region) = two (to_ascii_lowercase a) (to_ascii_lowercase b) (map to_ascii_lowercase v) (lower_letter a ha) (lower_letter b hb) (lower_region v region)
lower_tag _ (three a b c v ha hb hc region) =
    three (to_ascii_lowercase a) (to_ascii_lowercase b) (to_ascii_lowercase c) (map to_ascii_lowercase v) (lower_letter a ha) (lower_letter b hb) (lower_letter c hc) (lower_region v region)

lower_language_body : (b : List ℕ) → is_language_body b ≡ true → is_language_body (map to_ascii_lowercase b) ≡ true
lower_language_body b h = tag_lawful (map to_ascii_lowercase b) (lower_tag b (tag_case b h))

-- ---- values

lower_lawful_value : (v : Value) → IsValue v → IsValue (lower_value v)
lower_lawful_value value.Any is = is
lower_lawful_value value.Na is = is
lower_lawful_value (value.Text t) is = lower_text t is

-- lower case keeps the shape of a value, if it keeps the shape of a body
lower_plain : (shape : List ℕ → Bool) → ((b : List ℕ) → shape b ≡ true → shape (map to_ascii_lowercase b) ≡ true) → (v : Value) → is_plain_of shape v ≡ true → is_plain_of shape (lower_value v) ≡ true
lower_plain shape lowers value.Any h = refl
lower_plain shape lowers value.Na h = refl
lower_plain shape lowers (value.Text t) h =
    let p = and_parts (is_nothing t.lead && is_nothing t.trail) (shape t.body) h in
    and_from _ _ p.0 (lowers t.body p.1)

-- a value that suits an attribute suits it in lower case, too
pub lower_suits : (a : Attribute) (v : Value) → Suits a v → Suits a (lower_value v)
lower_suits Part v is = (lower_lawful_value v is.0, lower_plain is_part_body lower_part_body v is.1)
lower_suits Language v is = (lower_lawful_value v is.0, lower_plain is_language_body lower_language_body v is.1)
lower_suits Vendor v is = lower_lawful_value v is
lower_suits Product v is = lower_lawful_value v is
lower_suits Version v is = lower_lawful_value v is
lower_suits Update v is = lower_lawful_value v is
lower_suits Edition v is = lower_lawful_value v is
lower_suits SwEdition v is = lower_lawful_value v is
lower_suits TargetSw v is = lower_lawful_value v is
lower_suits TargetHw v is = lower_lawful_value v is
lower_suits Other v is = lower_lawful_value v is

-- ---- names

pub lower_at : (w : Values) (a : Attribute) → value_of (lower_name w) a ≡ lower_value (value_of w a)
lower_at w a = value_named (λ b. lower_value (value_of w b)) a

-- a name in lower case is a name
pub lower_lawful : (w : Values) → IsName w → IsName (lower_name w)
lower_lawful w is = lower_each attributes is where
  lower_each : (which : List Attribute) → AllByRecursion (λ a. Suits a (value_of w a)) which → AllByRecursion (λ a. Suits a (lower_value (value_of w a))) which
  lower_each [] is = is
  lower_each (a ∷ which) is = (lower_suits a (value_of w a) is.0, lower_each which is.1)
