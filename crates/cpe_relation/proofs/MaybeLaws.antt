-- Lemmas: laws of names that a name may cover.
use Rattle.std.proofs.Common.{◌≡◌, ◌⊎◌, Bool, true, false, ◌&&◌, ◌||◌, List, [], ◌∷◌, refl, sym, ap, ◌∙◌, inl, inr}
use Rattle.std.specs.List.{list_all, list_any}
use Rattle.std.proofs.lemmas.Bool.{false≢true, and_parts, and_from, or_from, or_left, or_right}
use Rattle.cpe_values.specs.declared.value.Value.{Value}
use Rattle.cpe_values.specs.Lower.{has_specials}
use Rattle.cpe_name.specs.Eleven.{Values}
use Rattle.cpe_name.specs.declared.attribute.Attribute.{Attribute}
use Rattle.cpe_name.specs.declared.attribute.Attribute.TheVariants.{Vendor, Product, Version, Update, Edition, Language, SwEdition, TargetSw, TargetHw, Other}
use Rattle.cpe_name.specs.Names.{attributes, value_of}
use Rattle.cpe_name.specs.Lower.{lower_name}
use Rattle.cpe_name.specs.Wildcards.{name_has_specials}
use Rattle.cpe_relation.specs.declared.relation.Relation.{Relation}
use Rattle.cpe_relation.specs.declared.relation.Relation.TheVariants.{Disjoint, Equal, Subset, Superset, Undefined}
use Rattle.cpe_relation.specs.Table.{relation}
use Rattle.cpe_relation.specs.NameRelation.{is_above, relations, covers}
use Rattle.cpe_relation.specs.Attributes.{may_be_above_at}
use Rattle.cpe_relation.specs.Near.{near}
use Rattle.cpe_relation.specs.Maybe.{is_undefined, may_be_above, maybe, values_meet}
use Rattle.cpe_relation.proofs.NearLaws.{above_near}
use Rattle.cpe_relation.proofs.ValueLaws.{undefined_is, above_through}
use Rattle.cpe_relation.proofs.NameLaws.{covers_near, relations_lower, between, through}

-- ---- one attribute

undefined_or_above : (r : Relation) → may_be_above r ≡ (is_undefined r || is_above r)
undefined_or_above Disjoint = refl
undefined_or_above Equal = refl
undefined_or_above Subset = refl
undefined_or_above Superset = refl
undefined_or_above Undefined = refl

-- The target has a special, or the source is SUPERSET or EQUAL to the target.
pub may_be_above_is : (a b : Value) → may_be_above (relation a b) ≡ (has_specials b || is_above (relation a b))
may_be_above_is a b = undefined_or_above (relation a b) ∙ ap (λ (x : Bool). x || is_above (relation a b)) (undefined_is a b)

may_be_above_parts : (a b : Value) → may_be_above (relation a b) ≡ true → (has_specials b ≡ true) ⊎ (is_above (relation a b) ≡ true)
may_be_above_parts a b h = parts (has_specials b) (is_above (relation a b)) (sym (may_be_above_is a b) ∙ h)
  where
    parts : (x y : Bool) → (x || y) ≡ true → (x ≡ true) ⊎ (y ≡ true)
    parts true y e = inl refl
    parts false y e = inr e

special_may : (a b : Value) → has_specials b ≡ true → may_be_above (relation a b) ≡ true
special_may a b h = may_be_above_is a b ∙ or_left (has_specials b) (is_above (relation a b)) h

above_may : (a b : Value) → is_above (relation a b) ≡ true → may_be_above (relation a b) ≡ true
above_may a b h = may_be_above_is a b ∙ or_right (has_specials b) (is_above (relation a b)) h

may_meet : (a b : Value) → may_be_above (relation a b) ≡ true → values_meet a b ≡ true
may_meet a b h =
    elim (may_be_above_parts a b h) [
      | inl e ↦ or_left (has_specials b) (near a b) e
      | inr e ↦ or_right (has_specials b) (near a b) (above_near a b e)
    ]

may_through : (a b c : Value) → is_above (relation a b) ≡ true → may_be_above (relation b c) ≡ true → may_be_above (relation a c) ≡ true
may_through a b c h k =
    elim (may_be_above_parts b c k) [
      | inl e ↦ special_may a c e
      | inr e ↦ above_may a c (above_through a b c h e)
    ]

-- ---- attribute by attribute

undefined_some : (a b : Values) (ws : List Attribute) → list_any is_undefined (between a b ws) ≡ list_any (λ w. has_specials (value_of b w)) ws
undefined_some a b [] = refl
undefined_some a b (w ∷ ws) =
    ap (λ (x : Bool). x || list_any is_undefined (between a b ws)) (undefined_is (value_of a w) (value_of b w))
    ∙ ap (λ (x : Bool). has_specials (value_of b w) || x) (undefined_some a b ws)

may_each : (a b : Values) (ws : List Attribute) → list_all (may_be_above_at a b) ws ≡ list_all may_be_above (between a b ws)
unfolding may_be_above_at
may_each a b [] = refl
may_each a b (w ∷ ws) = ap (λ (x : Bool). may_be_above (relation (value_of a w) (value_of b w)) && x) (may_each a b ws)

turned : (x y : Bool) → (x && y) ≡ (y && x)
turned true true = refl
turned true false = refl
turned false true = refl
turned false false = refl

pub maybe_is : (a b : Values) → (name_has_specials b && list_all (may_be_above_at a b) attributes) ≡ maybe a b
unfolding maybe
maybe_is a b =
    turned (name_has_specials b) (list_all (may_be_above_at a b) attributes)
    ∙ ap (λ (x : Bool). x && name_has_specials b) (may_each a b attributes)
    ∙ ap (λ (x : Bool). list_all may_be_above (relations a b) && x) (sym (undefined_some a b attributes))

maybe_parts : (a b : Values) → maybe a b ≡ true → (list_all may_be_above (relations a b) ≡ true) × (name_has_specials b ≡ true)
unfolding maybe
maybe_parts a b h =
    let p = and_parts (list_all may_be_above (relations a b)) (list_any is_undefined (relations a b)) h in
    (p.0, sym (undefined_some a b attributes) ∙ p.1)

maybe_from : (a b : Values) → list_all may_be_above (relations a b) ≡ true → name_has_specials b ≡ true → maybe a b ≡ true
unfolding maybe
maybe_from a b h k = and_from (list_all may_be_above (relations a b)) (list_any is_undefined (relations a b)) h (undefined_some a b attributes ∙ k)

pub maybe_part : (a b : Values) → maybe a b ≡ true → name_has_specials b ≡ true
maybe_part a b h = (maybe_parts a b h).1

above_defined : (r : Relation) → is_above r ≡ true → is_undefined r ≡ false
above_defined Disjoint h = refl
above_defined Equal h = refl
above_defined Subset h = refl
above_defined Superset h = refl
above_defined Undefined h = absurd cc

all_defined : (rs : List Relation) → list_all is_above rs ≡ true → list_any is_undefined rs ≡ false
all_defined [] h = refl
all_defined (r ∷ rs) h = let p = and_parts (is_above r) (list_all is_above rs) h in or_from (is_undefined r) (list_any is_undefined rs) (above_defined r p.0) (all_defined rs p.1)

pub covers_whole : (a b : Values) → covers a b ≡ true → name_has_specials b ≡ false
unfolding covers
covers_whole a b h = sym (undefined_some a b attributes) ∙ all_defined (relations a b) h

pub apart : (a b : Values) → covers a b ≡ true → maybe a b ≡ true → ⊥
apart a b h k = false≢true (sym (covers_whole a b h) ∙ maybe_part a b k)

-- ---- products

abbrev from_version : List Attribute
from_version = Version ∷ Update ∷ Edition ∷ Language ∷ SwEdition ∷ TargetSw ∷ TargetHw ∷ Other ∷ []

product_may : (a b : Values) → list_all may_be_above (relations a b) ≡ true → may_be_above (relation a.product b.product) ≡ true
product_may a b h =
    let p = and_parts (may_be_above (relation a.part b.part)) (list_all may_be_above (between a b (Vendor ∷ Product ∷ from_version))) h in
    let q = and_parts (may_be_above (relation a.vendor b.vendor)) (list_all may_be_above (between a b (Product ∷ from_version))) p.1 in
    (and_parts (may_be_above (relation a.product b.product)) (list_all may_be_above (between a b from_version)) q.1).0

pub each_meets : (a b : Values) → (covers a b ≡ true) ⊎ (maybe a b ≡ true) → values_meet a.product b.product ≡ true
each_meets a b (inl h) = or_right (has_specials b.product) (near a.product b.product) (covers_near a b h)
each_meets a b (inr h) = may_meet a.product b.product (product_may a b (maybe_parts a b h).0)

-- ---- letter case, and transitivity

pub maybe_lower : (a b : Values) → maybe (lower_name a) (lower_name b) ≡ maybe a b
unfolding maybe
maybe_lower a b = ap (λ (rs : List Relation). list_all may_be_above rs && list_any is_undefined rs) (relations_lower a b)

pub maybe_through : (a b c : Values) → covers a b ≡ true → maybe b c ≡ true → maybe a c ≡ true
unfolding covers
maybe_through a b c h k =
    let p = maybe_parts b c k in
    maybe_from a c (through may_be_above may_through a b c attributes h p.0) p.1
