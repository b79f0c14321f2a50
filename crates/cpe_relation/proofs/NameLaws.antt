-- Lemmas: laws of the relation of two names.
use Rattle.std.proofs.Common.{◌≡◌, ◌⊎◌, Bool, true, false, not, ◌&&◌, ◌||◌, cond, List, [], ◌∷◌, map, refl, sym, ap, ◌∙◌, inl, inr}
use Rattle.std.specs.List.{list_all, list_any}
use Rattle.std.proofs.lemmas.Bool.{false≢true, and_parts, and_from, not-true, or_from}
use Rattle.cpe_values.specs.declared.value.Value.{Value}
use Rattle.cpe_values.specs.Lower.{lower_value, has_specials}
use Rattle.cpe_name.specs.Eleven.{Values}
use Rattle.cpe_name.specs.declared.attribute.Attribute.{Attribute}
use Rattle.cpe_name.specs.declared.attribute.Attribute.TheVariants.{Part, Vendor, Product, Version, Update, Edition, Language, SwEdition, TargetSw, TargetHw, Other}
use Rattle.cpe_name.specs.Names.{attributes, value_of, named}
use Rattle.cpe_name.specs.Lower.{lower_name}
use Rattle.cpe_name.proofs.LowerNames.{lower_at}
use Rattle.cpe_relation.specs.declared.relation.Relation.{Relation}
use Rattle.cpe_relation.specs.declared.relation.Relation.TheVariants.{Disjoint, Equal, Subset, Superset, Undefined}
use Rattle.cpe_relation.specs.Table.{relation}
use Rattle.cpe_relation.specs.NameRelation.{relation_of, is_disjoint, is_equal, is_within, is_above, relations, of_all, name_relation, covers}
use Rattle.cpe_relation.specs.Attributes.{each_relation}
use Rattle.cpe_relation.specs.Near.{near}
use Rattle.cpe_relation.specs.Laws.{converse, is_plain_name}
use Rattle.cpe_relation.proofs.NearLaws.{above_near}
use Rattle.cpe_relation.proofs.ValueLaws.{above_through, above_one, relation_lower, relation_back, relation_self}

-- ---- lists of relations

above_not_disjoint : (r : Relation) → is_above r ≡ true → is_disjoint r ≡ false
above_not_disjoint Disjoint h = absurd cc
above_not_disjoint Equal h = refl
above_not_disjoint Subset h = refl
above_not_disjoint Superset h = refl
above_not_disjoint Undefined h = refl

none_disjoint : (rs : List Relation) → list_all is_above rs ≡ true → list_any is_disjoint rs ≡ false
none_disjoint [] h = refl
none_disjoint (r ∷ rs) h = let p = and_parts (is_above r) (list_all is_above rs) h in or_from (is_disjoint r) (list_any is_disjoint rs) (above_not_disjoint r p.0) (none_disjoint rs p.1)

both_equal : (r : Relation) → is_within r ≡ true → is_above r ≡ true → is_equal r ≡ true
both_equal Disjoint h k = absurd cc
both_equal Equal h k = refl
both_equal Subset h k = absurd cc
both_equal Superset h k = absurd cc
both_equal Undefined h k = absurd cc

all_both : (rs : List Relation) → list_all is_within rs ≡ true → list_all is_above rs ≡ true → list_all is_equal rs ≡ true
all_both [] h k = refl
all_both (r ∷ rs) h k =
    let p = and_parts (is_within r) (list_all is_within rs) h in
    let q = and_parts (is_above r) (list_all is_above rs) k in
    and_from (is_equal r) (list_all is_equal rs) (both_equal r p.0 q.0) (all_both rs p.1 q.1)

equal_above : (r : Relation) → is_equal r ≡ true → is_above r ≡ true
equal_above Disjoint h = absurd cc
equal_above Equal h = refl
equal_above Subset h = absurd cc
equal_above Superset h = absurd cc
equal_above Undefined h = absurd cc

all_equal_above : (rs : List Relation) → list_all is_equal rs ≡ true → list_all is_above rs ≡ true
all_equal_above [] h = refl
all_equal_above (r ∷ rs) h = let p = and_parts (is_equal r) (list_all is_equal rs) h in and_from (is_above r) (list_all is_above rs) (equal_above r p.0) (all_equal_above rs p.1)

-- ---- covering and the relation

to_above : (d e w a : Bool) → (a ≡ true → d ≡ false) → (w ≡ true → a ≡ true → e ≡ true) → a ≡ true
    → (cond d Disjoint (cond e Equal (cond w Subset (cond a Superset Undefined))) ≡ Equal) ⊎ (cond d Disjoint (cond e Equal (cond w Subset (cond a Superset Undefined))) ≡ Superset)
to_above true e w a f g h = absurd (false≢true (sym (f h)))
to_above false true w a f g h = inl refl
to_above false false true a f g h = absurd (false≢true (g refl h))
to_above false false false true f g h = inr refl
to_above false false false false f g h = absurd cc

from_above : (d e w a : Bool) → (e ≡ true → a ≡ true)
    → (cond d Disjoint (cond e Equal (cond w Subset (cond a Superset Undefined))) ≡ Equal) ⊎ (cond d Disjoint (cond e Equal (cond w Subset (cond a Superset Undefined))) ≡ Superset) → a ≡ true
from_above true e w a f (inl h) = absurd cc
from_above true e w a f (inr h) = absurd cc
from_above false true w a f h = f refl
from_above false false true a f (inl h) = absurd cc
from_above false false true a f (inr h) = absurd cc
from_above false false false true f h = refl
from_above false false false false f (inl h) = absurd cc
from_above false false false false f (inr h) = absurd cc

pub covers_relation : (a b : Values) → covers a b ≡ true → (name_relation a b ≡ Equal) ⊎ (name_relation a b ≡ Superset)
unfolding covers name_relation
covers_relation a b h = to_above (list_any is_disjoint (relations a b)) (list_all is_equal (relations a b)) (list_all is_within (relations a b)) (list_all is_above (relations a b)) (none_disjoint (relations a b)) (all_both (relations a b)) h

pub relation_covers : (a b : Values) → (name_relation a b ≡ Equal) ⊎ (name_relation a b ≡ Superset) → covers a b ≡ true
unfolding covers name_relation
relation_covers a b h = from_above (list_any is_disjoint (relations a b)) (list_all is_equal (relations a b)) (list_all is_within (relations a b)) (list_all is_above (relations a b)) (all_equal_above (relations a b)) h

-- ---- attribute by attribute

abbrev pub between : Values → Values → List Attribute → List Relation
between a b ws = map (λ w. relation (value_of a w) (value_of b w)) ws

-- Let each attribute of a be SUPERSET or EQUAL to that of b. If a test is true of the relation of b to c in each
-- attribute, it is true of the relation of a to c. This needs the same for single values (`at_one`).
module _ (test : Relation → Bool) (at_one : (u v w : Value) → is_above (relation u v) ≡ true → test (relation v w) ≡ true → test (relation u w) ≡ true) where
  pub through : (a b c : Values) (ws : List Attribute) → list_all is_above (between a b ws) ≡ true → list_all test (between b c ws) ≡ true → list_all test (between a c ws) ≡ true
  through a b c [] h k = refl
  through a b c (w ∷ ws) h k =
      let p = and_parts (is_above (relation (value_of a w) (value_of b w))) (list_all is_above (between a b ws)) h in
      let q = and_parts (test (relation (value_of b w) (value_of c w))) (list_all test (between b c ws)) k in
      and_from (test (relation (value_of a w) (value_of c w))) (list_all test (between a c ws)) (at_one (value_of a w) (value_of b w) (value_of c w) p.0 q.0) (through a b c ws p.1 q.1)

pub covers_through : (a b c : Values) → covers a b ≡ true → covers b c ≡ true → covers a c ≡ true
unfolding covers
covers_through a b c h k = through is_above above_through a b c attributes h k

lowered_same : (a b : Values) (ws : List Attribute) → list_all is_above (between a b ws) ≡ true → list_all is_above (between b a ws) ≡ true → map (λ w. lower_value (value_of a w)) ws ≡ map (λ w. lower_value (value_of b w)) ws
lowered_same a b [] h k = refl
lowered_same a b (w ∷ ws) h k =
    let p = and_parts (is_above (relation (value_of a w) (value_of b w))) (list_all is_above (between a b ws)) h in
    let q = and_parts (is_above (relation (value_of b w) (value_of a w))) (list_all is_above (between b a ws)) k in
    ap (λ (x : Value). x ∷ map (λ w. lower_value (value_of a w)) ws) (above_one (value_of a w) (value_of b w) p.0 q.0)
    ∙ ap (λ (r : List Value). lower_value (value_of b w) ∷ r) (lowered_same a b ws p.1 q.1)

pub covers_one : (a b : Values) → covers a b ≡ true → covers b a ≡ true → lower_name a ≡ lower_name b
unfolding covers
covers_one a b h k = ap named (lowered_same a b attributes h k)

abbrev from_version : List Attribute
from_version = Version ∷ Update ∷ Edition ∷ Language ∷ SwEdition ∷ TargetSw ∷ TargetHw ∷ Other ∷ []

pub covers_near : (a b : Values) → covers a b ≡ true → near a.product b.product ≡ true
unfolding covers
covers_near a b h =
    let p = and_parts (is_above (relation a.part b.part)) (list_all is_above (between a b (Vendor ∷ Product ∷ from_version))) h in
    let q = and_parts (is_above (relation a.vendor b.vendor)) (list_all is_above (between a b (Product ∷ from_version))) p.1 in
    let r = and_parts (is_above (relation a.product b.product)) (list_all is_above (between a b from_version)) q.1 in
    above_near a.product b.product r.0

-- ---- letter case

between_lower : (a b : Values) (ws : List Attribute) → between (lower_name a) (lower_name b) ws ≡ between a b ws
between_lower a b [] = refl
between_lower a b (w ∷ ws) =
    let is : relation (value_of (lower_name a) w) (value_of (lower_name b) w) ≡ relation (value_of a w) (value_of b w) =
    ap (λ (x : Value). relation x (value_of (lower_name b) w)) (lower_at a w) ∙ ap (λ (x : Value). relation (lower_value (value_of a w)) x) (lower_at b w) ∙ relation_lower (value_of a w) (value_of b w) in
    ap (λ (x : Relation). x ∷ between (lower_name a) (lower_name b) ws) is ∙ ap (λ (r : List Relation). relation (value_of a w) (value_of b w) ∷ r) (between_lower a b ws)

pub relations_lower : (a b : Values) → relations (lower_name a) (lower_name b) ≡ relations a b
relations_lower a b = between_lower a b attributes

-- ---- names without specials

plain_equal : (a : Values) (ws : List Attribute) → list_all (λ w. not (has_specials (value_of a w))) ws ≡ true → list_all is_equal (between a a ws) ≡ true
plain_equal a [] h = refl
plain_equal a (w ∷ ws) h =
    let p = and_parts (not (has_specials (value_of a w))) (list_all (λ w. not (has_specials (value_of a w))) ws) h in
    and_from (is_equal (relation (value_of a w) (value_of a w))) (list_all is_equal (between a a ws)) (ap is_equal (relation_self (value_of a w) (not-true (has_specials (value_of a w)) p.0))) (plain_equal a ws p.1)

all_equal_relation : (d e w a : Bool) → (a ≡ true → d ≡ false) → (e ≡ true → a ≡ true) → e ≡ true → cond d Disjoint (cond e Equal (cond w Subset (cond a Superset Undefined))) ≡ Equal
all_equal_relation true e w a f g h = absurd (false≢true (sym (f (g h))))
all_equal_relation false true w a f g h = refl
all_equal_relation false false w a f g h = absurd cc

pub plain_self : (a : Values) → is_plain_name a ≡ true → name_relation a a ≡ Equal
unfolding name_relation
plain_self a h = all_equal_relation (list_any is_disjoint (relations a a)) (list_all is_equal (relations a a)) (list_all is_within (relations a a)) (list_all is_above (relations a a)) (none_disjoint (relations a a)) (all_equal_above (relations a a)) (plain_equal a attributes h)

between_back : (a b : Values) (ws : List Attribute) → list_all (λ w. not (has_specials (value_of a w))) ws ≡ true → list_all (λ w. not (has_specials (value_of b w))) ws ≡ true → between b a ws ≡ map converse (between a b ws)
between_back a b [] h k = refl
between_back a b (w ∷ ws) h k =
    let p = and_parts (not (has_specials (value_of a w))) (list_all (λ w. not (has_specials (value_of a w))) ws) h in
    let q = and_parts (not (has_specials (value_of b w))) (list_all (λ w. not (has_specials (value_of b w))) ws) k in
    let is : relation (value_of b w) (value_of a w) ≡ converse (relation (value_of a w) (value_of b w)) = relation_back (value_of a w) (value_of b w) (not-true (has_specials (value_of a w)) p.0) (not-true (has_specials (value_of b w)) q.0) in
    ap (λ (x : Relation). x ∷ between b a ws) is ∙ ap (λ (r : List Relation). converse (relation (value_of a w) (value_of b w)) ∷ r) (between_back a b ws p.1 q.1)

-- The tests of a relation and those of its converse.
flip : (r : Relation) → (is_disjoint (converse r) ≡ is_disjoint r) × ((is_equal (converse r) ≡ is_equal r) × ((is_within (converse r) ≡ is_above r) × (is_above (converse r) ≡ is_within r)))
flip Disjoint = (refl, (refl, (refl, refl)))
flip Equal = (refl, (refl, (refl, refl)))
flip Subset = (refl, (refl, (refl, refl)))
flip Superset = (refl, (refl, (refl, refl)))
flip Undefined = (refl, (refl, (refl, refl)))

all_flip : (f g : Relation → Bool) → ((r : Relation) → f (converse r) ≡ g r) → (rs : List Relation) → list_all f (map converse rs) ≡ list_all g rs
all_flip f g h [] = refl
all_flip f g h (r ∷ rs) = ap (λ (x : Bool). x && list_all f (map converse rs)) (h r) ∙ ap (λ (x : Bool). g r && x) (all_flip f g h rs)

any_flip : (f g : Relation → Bool) → ((r : Relation) → f (converse r) ≡ g r) → (rs : List Relation) → list_any f (map converse rs) ≡ list_any g rs
any_flip f g h [] = refl
any_flip f g h (r ∷ rs) = ap (λ (x : Bool). x || list_any f (map converse rs)) (h r) ∙ ap (λ (x : Bool). g r || x) (any_flip f g h rs)

summed_flip : (d e w a : Bool) → (w ≡ true → a ≡ true → e ≡ true)
    → cond d Disjoint (cond e Equal (cond a Subset (cond w Superset Undefined))) ≡ converse (cond d Disjoint (cond e Equal (cond w Subset (cond a Superset Undefined))))
summed_flip true e w a f = refl
summed_flip false true w a f = refl
summed_flip false false true true f = absurd (false≢true (f refl refl))
summed_flip false false true false f = refl
summed_flip false false false true f = refl
summed_flip false false false false f = refl

of_all_flip : (rs : List Relation) → of_all (map converse rs) ≡ converse (of_all rs)
of_all_flip rs =
    let d = any_flip is_disjoint is_disjoint (λ r. (flip r).0) rs in
    let e = all_flip is_equal is_equal (λ r. (flip r).1.0) rs in
    let w = all_flip is_within is_above (λ r. (flip r).1.1.0) rs in
    let a = all_flip is_above is_within (λ r. (flip r).1.1.1) rs in
    ap (λ (x : Bool). cond x Disjoint (cond (list_all is_equal (map converse rs)) Equal (cond (list_all is_within (map converse rs)) Subset (cond (list_all is_above (map converse rs)) Superset Undefined)))) d
    ∙ ap (λ (x : Bool). cond (list_any is_disjoint rs) Disjoint (cond x Equal (cond (list_all is_within (map converse rs)) Subset (cond (list_all is_above (map converse rs)) Superset Undefined)))) e
    ∙ ap (λ (x : Bool). cond (list_any is_disjoint rs) Disjoint (cond (list_all is_equal rs) Equal (cond x Subset (cond (list_all is_above (map converse rs)) Superset Undefined)))) w
    ∙ ap (λ (x : Bool). cond (list_any is_disjoint rs) Disjoint (cond (list_all is_equal rs) Equal (cond (list_all is_above rs) Subset (cond x Superset Undefined)))) a
    ∙ summed_flip (list_any is_disjoint rs) (list_all is_equal rs) (list_all is_within rs) (list_all is_above rs) (all_both rs)

pub name_back : (a b : Values) → is_plain_name a ≡ true → is_plain_name b ≡ true → name_relation b a ≡ converse (name_relation a b)
unfolding name_relation
name_back a b h k = ap of_all (between_back a b attributes h k) ∙ of_all_flip (relations a b)

-- Each relation is in its own field.
pub each_is : (a b : Values) (w : Attribute) → relation_of (each_relation a b) w ≡ relation (value_of a w) (value_of b w)
each_is a b Part = refl
each_is a b Vendor = refl
each_is a b Product = refl
each_is a b Version = refl
each_is a b Update = refl
each_is a b Edition = refl
each_is a b Language = refl
each_is a b SwEdition = refl
each_is a b TargetSw = refl
each_is a b TargetHw = refl
each_is a b Other = refl
