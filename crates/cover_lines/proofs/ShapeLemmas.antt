-- A name without specials that covers another is found by its shape.
use Rattle.std.proofs.Common.{◌≡◌, ℕ, ◌+◌, ◌<◌, Bool, true, false, cond, not, ◌||◌, ◌&&◌, List, [], ◌∷◌, length, get_or, map, take, refl, sym, ap, ◌∙◌, inl, inr, if◌then◌else◌}
use Rattle.std.specs.Cmp.{both_ways as agree}
use Rattle.std.specs.List.{list_all, list_any}
use Rattle.std.proofs.lemmas.Bool.{and_from, and_parts, both_ways, false_from_ne_true, not-true, or_cases, or_from, or_left, or_right}
use Rattle.std.proofs.lemmas.List.Folds.{list_any_more}
use Rattle.cpe_rows.specs.cpe_values.declared.value.Value.{Value}
use Rattle.cpe_rows.specs.cpe_values.declared.value.Value.TheVariants as value
use Rattle.cpe_rows.specs.cpe_values.Parts.{has_special}
use Rattle.cpe_rows.specs.cpe_values.Lower.{has_specials, lower_value}
use Rattle.cpe_rows.specs.cpe_name.Eleven.{Values, put}
use Rattle.cpe_rows.specs.cpe_name.declared.attribute.Attribute.{Attribute}
use Rattle.cpe_rows.specs.cpe_name.declared.attribute.Attribute.TheVariants.{Part, Vendor, Product, Version, Update, Edition, Language, SwEdition, TargetSw, TargetHw, Other}
use Rattle.cpe_rows.specs.cpe_name.Equal.{same_name, same_name-Decides}
use Rattle.cpe_rows.specs.cpe_name.Lower.{lower_name}
use Rattle.cpe_rows.specs.cpe_name.Names.{attributes, named, value_of, any_values}
use Rattle.cpe_rows.specs.cpe_name.WfnText.{same_attribute, is_listed}
use Rattle.cpe_rows.proofs.cpe_name.Lists.{all_listed, same_is as same_attribute_is}
use Rattle.cpe_rows.proofs.cpe_name.LowerNames.{lower_at}
use Rattle.cpe_relation.specs.declared.relation.Relation.{Relation}
use Rattle.cpe_relation.specs.declared.relation.Relation.TheVariants.{Disjoint, Equal, Subset, Superset, Undefined}
use Rattle.cpe_relation.specs.NameRelation.{covers, is_above}
use Rattle.cpe_relation.specs.Table.{relation}
use Rattle.cpe_relation.specs.MatchTests.{matches_text, same_lower}
use Rattle.cpe_relation.specs.Laws.{converse}
use Rattle.cpe_relation.proofs.ValueLaws.{above_one, relation_back, relation_self, special_undefined}
use Rattle.cpe_rows.specs.Names.{has_wildcards}
use Rattle.cover_lines.specs.Cover.{covers_other}
use Rattle.cover_lines.specs.Laws.{is_among}
use Rattle.cover_lines.specs.Shapes.{any_at, AreShapes, finds_wider, is_any_value, is_as_wide, is_under, is_wider, same_shape, widened, widened_at, widened_from}
use Rattle.cover_lines.proofs.Among.{among_finds, found_among, same_is}

-- ---- all attributes

module _ {A : Type 0} (p : A → Bool) where
  pub all_from : ((x : A) → p x ≡ true) → (xs : List A) → list_all p xs ≡ true
  all_from h [] = refl
  all_from h (x ∷ xs) = and_from (p x) (list_all p xs) (h x) (all_from h xs)

  none_from : ((x : A) → p x ≡ false) → (xs : List A) → list_any p xs ≡ false
  none_from h [] = refl
  none_from h (x ∷ xs) = or_from (p x) (list_any p xs) (h x) (none_from h xs)

among_all : (p : Attribute → Bool) (ws : List Attribute) → list_all p ws ≡ true → (w : Attribute) → is_listed w ws ≡ true → p w ≡ true
among_all p [] h w listed = absurd cc
among_all p (v ∷ ws) h w listed =
    let both = and_parts (p v) (list_all p ws) h in
    elim (or_cases (same_attribute w v) (is_listed w ws) listed) [
      | inl here ↦ ap p (same_attribute_is w v here) ∙ both.0
      | inr later ↦ among_all p ws both.1 w later
    ]

at_each : (p : Attribute → Bool) → list_all p attributes ≡ true → (w : Attribute) → p w ≡ true
at_each p h w = among_all p attributes h w (all_listed w)

any_among : (p : Attribute → Bool) (ws : List Attribute) (w : Attribute) → is_listed w ws ≡ true → p w ≡ true → list_any p ws ≡ true
any_among p [] w listed h = absurd cc
any_among p (v ∷ ws) w listed h = elim (or_cases (same_attribute w v) (is_listed w ws) listed) [
  | inl here ↦ or_left (p v) (list_any p ws) (ap p (sym (same_attribute_is w v here)) ∙ h)
  | inr later ↦ or_right (p v) (list_any p ws) (any_among p ws w later h)
]

-- names are equal if each of their values is
equal_by : (a b : Values) → ((w : Attribute) → value_of a w ≡ value_of b w) → a ≡ b
equal_by a b h = let all : map (value_of a) attributes ≡ map (value_of b) attributes = λ i. map (λ w. h w i) attributes in ap named all

-- ---- names without specials

pub plain_at : (n : Values) → has_wildcards n ≡ false → (w : Attribute) → has_specials (value_of n w) ≡ false
unfolding has_wildcards
plain_at n h w = false_from_ne_true _ (λ e. both_ways _ h (any_among (λ v. has_specials (value_of n v)) attributes w (all_listed w) e))

pub plain_from : (n : Values) → ((w : Attribute) → has_specials (value_of n w) ≡ false) → has_wildcards n ≡ false
unfolding has_wildcards
plain_from n h = none_from (λ w. has_specials (value_of n w)) h attributes

-- ---- covering, attribute by attribute

all_map : (f : Attribute → Relation) (ws : List Attribute) → list_all is_above (map f ws) ≡ list_all (λ w. is_above (f w)) ws
all_map f [] = refl
all_map f (w ∷ ws) = ap (λ (b : Bool). is_above (f w) && b) (all_map f ws)

pub covers_at : (a b : Values) → covers a b ≡ true → (w : Attribute) → is_above (relation (value_of a w) (value_of b w)) ≡ true
unfolding covers
covers_at a b h w = at_each (λ v. is_above (relation (value_of a v) (value_of b v))) (sym (all_map (λ v. relation (value_of a v) (value_of b v)) attributes) ∙ h) w

pub covers_from : (a b : Values) → ((w : Attribute) → is_above (relation (value_of a w) (value_of b w)) ≡ true) → covers a b ≡ true
unfolding covers
covers_from a b h = all_map (λ v. relation (value_of a v) (value_of b v)) attributes ∙ all_from (λ w. is_above (relation (value_of a w) (value_of b w))) h attributes

-- a covered name has no special
pub covered_plain : (a b : Values) → covers a b ≡ true → has_wildcards b ≡ false
covered_plain a b h = plain_from b (λ w. false_from_ne_true _ (λ s. both_ways (is_above Undefined) refl (ap is_above (sym (special_undefined (value_of a w) (value_of b w) s)) ∙ covers_at a b h w)))

-- ---- values

self_above : (v : Value) → has_specials v ≡ false → is_above (relation v v) ≡ true
self_above v plain = ap is_above (relation_self v plain)

any_above : (v : Value) → has_specials v ≡ false → is_above (relation value.Any v) ≡ true
any_above value.Any plain = refl
any_above value.Na plain = refl
any_above (value.Text t) plain = by (has_special t) plain
  where
    by : (b : Bool) → b ≡ false → is_above (cond b Undefined Superset) ≡ true
    by true e = absurd cc
    by false e = refl

above_any : (a : Value) → is_above (relation a value.Any) ≡ true → is_any_value a ≡ true
above_any value.Any h = refl
above_any value.Na h = absurd cc
above_any (value.Text t) h = absurd cc

abbrev is_superset : Relation → Bool
is_superset Disjoint = false
is_superset Equal = false
is_superset Subset = false
is_superset Superset = true
is_superset Undefined = false

-- a value without specials that isn't ANY is above no value except itself
not_superset : (a b : Value) → has_specials a ≡ false → is_any_value a ≡ false → is_superset (relation a b) ≡ false
not_superset value.Any b plain ne = absurd cc
not_superset value.Na value.Any plain ne = refl
not_superset value.Na value.Na plain ne = refl
not_superset value.Na (value.Text t) plain ne = by (has_special t)
  where
    by : (x : Bool) → is_superset (cond x Undefined Disjoint) ≡ false
    by true = refl
    by false = refl
not_superset (value.Text s) value.Any plain ne = refl
not_superset (value.Text s) value.Na plain ne = refl
not_superset (value.Text s) (value.Text t) plain ne = by (has_special t) (has_special s) plain (matches_text s t.body) (same_lower s.body t.body)
  where
    by : (x y : Bool) → y ≡ false → (m e : Bool) → is_superset (cond x Undefined (cond y (cond m Superset Disjoint) (cond e Equal Disjoint))) ≡ false
    by true y p m e = refl
    by false true p m e = absurd cc
    by false false p m true = refl
    by false false p m false = refl

equal_only : (r : Relation) → is_above r ≡ true → is_superset r ≡ false → r ≡ Equal
equal_only Disjoint h k = absurd cc
equal_only Equal h k = refl
equal_only Subset h k = absurd cc
equal_only Superset h k = absurd cc
equal_only Undefined h k = absurd cc

above_same : (a b : Value) → has_specials a ≡ false → has_specials b ≡ false → is_any_value a ≡ false → lower_value a ≡ a → lower_value b ≡ b → is_above (relation a b) ≡ true → a ≡ b
above_same a b pa pb ne la lb h =
    let equal = equal_only (relation a b) h (not_superset a b pa ne) in
    let back : is_above (relation b a) ≡ true = ap is_above (relation_back a b pa pb ∙ ap converse equal) in
    sym la ∙ above_one a b h back ∙ lb

is_it_any : (a : Value) → is_any_value a ≡ true → a ≡ value.Any
is_it_any value.Any h = refl
is_it_any value.Na h = absurd cc
is_it_any (value.Text t) h = absurd cc

-- ---- a name with another shape

put_at : (n : Values) (w : Attribute) (x : Value) → value_of (put n w x) w ≡ x
put_at n Part x = refl
put_at n Vendor x = refl
put_at n Product x = refl
put_at n Version x = refl
put_at n Update x = refl
put_at n Edition x = refl
put_at n Language x = refl
put_at n SwEdition x = refl
put_at n TargetSw x = refl
put_at n TargetHw x = refl
put_at n Other x = refl

put_other : (n : Values) (v w : Attribute) (x : Value) → same_attribute w v ≡ false → value_of (put n v x) w ≡ value_of n w
put_other n Part Part x e = absurd cc
put_other n Vendor Vendor x e = absurd cc
put_other n Product Product x e = absurd cc
put_other n Version Version x e = absurd cc
put_other n Update Update x e = absurd cc
put_other n Edition Edition x e = absurd cc
put_other n Language Language x e = absurd cc
put_other n SwEdition SwEdition x e = absurd cc
put_other n TargetSw TargetSw x e = absurd cc
put_other n TargetHw TargetHw x e = absurd cc
put_other n Other Other x e = absurd cc
put_other n v w x e = refl

widened_step : (s n : Values) (v w : Attribute) → value_of (widened_at s n v) w ≡ cond (same_attribute w v && any_at s w) value.Any (value_of n w)
widened_step s n v w = by (any_at s v) (same_attribute w v) refl refl
  where
    by : (a e : Bool) → any_at s v ≡ a → same_attribute w v ≡ e → value_of (cond a (put n v value.Any) n) w ≡ cond (e && any_at s w) value.Any (value_of n w)
    by true true is same =
        let one : w ≡ v = same_attribute_is w v same in
        ap (λ (u : Attribute). value_of (put n v value.Any) u) one ∙ put_at n v value.Any ∙ sym (ap (λ (b : Bool). cond b value.Any (value_of n w)) (ap (any_at s) one ∙ is))
    by true false is same = put_other n v w value.Any same
    by false true is same =
        let one : w ≡ v = same_attribute_is w v same in
        sym (ap (λ (b : Bool). cond b value.Any (value_of n w)) (ap (any_at s) one ∙ is))
    by false false is same = refl

widened_along : (s n : Values) (ws : List Attribute) (w : Attribute) → value_of (widened_from s n ws) w ≡ cond (is_listed w ws && any_at s w) value.Any (value_of n w)
widened_along s n [] w = refl
widened_along s n (v ∷ ws) w =
    widened_along s (widened_at s n v) ws w
    ∙ ap (λ (x : Value). cond (is_listed w ws && any_at s w) value.Any x) (widened_step s n v w)
    ∙ both (is_listed w ws) (same_attribute w v) (any_at s w)
  where
    both : (l e a : Bool) → cond (l && a) value.Any (cond (e && a) value.Any (value_of n w)) ≡ cond ((e || l) && a) value.Any (value_of n w)
    both true true true = refl
    both true true false = refl
    both true false true = refl
    both true false false = refl
    both false true true = refl
    both false true false = refl
    both false false a = refl

pub widened_value : (s n : Values) (w : Attribute) → value_of (widened s n) w ≡ cond (any_at s w) value.Any (value_of n w)
unfolding widened
widened_value s n w = widened_along s n attributes w ∙ ap (λ (b : Bool). cond (b && any_at s w) value.Any (value_of n w)) (all_listed w)

-- ---- shapes

agreeing : (a b : Bool) → (if a then b else not b) ≡ true → a ≡ b
agreeing true true h = refl
agreeing true false h = absurd cc
agreeing false true h = absurd cc
agreeing false false h = refl

from_agreeing : (a b : Bool) → a ≡ b → (if a then b else not b) ≡ true
from_agreeing true b h = sym h
from_agreeing false b h = ap not (sym h)

shape_at : (a b : Values) → same_shape a b ≡ true → (w : Attribute) → any_at a w ≡ any_at b w
shape_at a b h w = agreeing (any_at a w) (any_at b w) (at_each (λ v. if any_at a v then any_at b v else not (any_at b v)) h w)

shape_from : (a b : Values) → ((w : Attribute) → any_at a w ≡ any_at b w) → same_shape a b ≡ true
shape_from a b h = all_from (λ v. if any_at a v then any_at b v else not (any_at b v)) (λ w. from_agreeing (any_at a w) (any_at b w) (h w)) attributes

pub same_shape_itself : (a : Values) → same_shape a a ≡ true
same_shape_itself a = shape_from a a (λ w. refl)

-- ---- a name that is found by its shape covers the other name, and isn't the same

module _ (names : List Values) (n : Values) (plain : has_wildcards n ≡ false) where
  wide_plain : (s : Values) → has_wildcards (widened s n) ≡ false
  wide_plain s = plain_from (widened s n) (λ w. ap has_specials (widened_value s n w) ∙ by w (any_at s w))
    where
      by : (w : Attribute) (a : Bool) → has_specials (cond a value.Any (value_of n w)) ≡ false
      by w true = refl
      by w false = plain_at n plain w

  wide_covers : (s : Values) → covers (widened s n) n ≡ true
  wide_covers s = covers_from (widened s n) n (λ w. ap (λ (x : Value). is_above (relation x (value_of n w))) (widened_value s n w) ∙ by w (any_at s w))
    where
      by : (w : Attribute) (a : Bool) → is_above (relation (cond a value.Any (value_of n w)) (value_of n w)) ≡ true
      by w true = any_above (value_of n w) (plain_at n plain w)
      by w false = self_above (value_of n w) (plain_at n plain w)

  wide_other : (s : Values) → is_wider s n ≡ true → same_name (widened s n) n ≡ false
  wide_other s wider = false_from_ne_true _ (λ same.
      let parts = and_parts (is_as_wide s n) (not (same_shape s n)) wider in
      both_ways (same_shape s n) (not-true _ parts.1) (shape_from s n (λ w. by w (any_at s w) refl (same_is (widened s n) n same) (at_each (λ v. any_at s v || not (any_at n v)) parts.0 w))))
    where
      by : (w : Attribute) (a : Bool) → any_at s w ≡ a → widened s n ≡ n → (any_at s w || not (any_at n w)) ≡ true → any_at s w ≡ any_at n w
      by w true is same h = is ∙ sym (ap (λ (m : Values). any_at m w) (sym same) ∙ ap is_any_value (widened_value s n w ∙ ap (λ (b : Bool). cond b value.Any (value_of n w)) is))
      by w false is same h = is ∙ sym (not-true _ (sym (ap (λ (b : Bool). b || not (any_at n w)) is) ∙ h))

  found_covers : (s : Values) → finds_wider names n s ≡ true → is_under names n ≡ true
  found_covers s h =
      let parts = and_parts (is_wider s n) (is_among names (widened s n)) h in
      among_finds (λ m. not (has_wildcards m) && covers_other m n) names (widened s n) parts.1
      (and_from (not (has_wildcards (widened s n))) (covers_other (widened s n) n) (ap not (wide_plain s)) (and_from (not (same_name (widened s n) n)) (covers (widened s n) n) (ap not (wide_other s parts.0)) (wide_covers s)))

  -- ---- a name that covers the other name is found by its shape

  module _ (ln : lower_name n ≡ n) (m : Values) (lm : lower_name m ≡ m) (plain_m : has_wildcards m ≡ false) (above : covers m n ≡ true) where
    lower_value_at : (x : Values) → lower_name x ≡ x → (w : Attribute) → lower_value (value_of x w) ≡ value_of x w
    lower_value_at x l w = sym (lower_at x w) ∙ ap (λ (y : Values). value_of y w) l

    same_there : (w : Attribute) → any_at m w ≡ false → value_of m w ≡ value_of n w
    same_there w isnt = above_same (value_of m w) (value_of n w) (plain_at m plain_m w) (plain_at n plain w) isnt (lower_value_at m lm w) (lower_value_at n ln w) (covers_at m n above w)

    any_there : (w : Attribute) → any_at n w ≡ true → any_at m w ≡ true
    any_there w is = above_any (value_of m w) (ap (λ (x : Value). is_above (relation (value_of m w) x)) (sym (is_it_any (value_of n w) is)) ∙ covers_at m n above w)

    module _ (s : Values) (shape : same_shape m s ≡ true) where
      wide_is : widened s n ≡ m
      wide_is = equal_by (widened s n) m (λ w. widened_value s n w ∙ ap (λ (b : Bool). cond b value.Any (value_of n w)) (sym (shape_at m s shape w)) ∙ by w (any_at m w) refl)
        where
          by : (w : Attribute) (a : Bool) → any_at m w ≡ a → cond a value.Any (value_of n w) ≡ value_of m w
          by w true is = sym (is_it_any (value_of m w) is)
          by w false isnt = sym (same_there w isnt)

      as_wide : is_as_wide s n ≡ true
      as_wide = all_from (λ w. any_at s w || not (any_at n w)) (λ w. by w (any_at n w) refl) attributes
        where
          by : (w : Attribute) (a : Bool) → any_at n w ≡ a → (any_at s w || not a) ≡ true
          by w true is = or_left (any_at s w) false (sym (shape_at m s shape w) ∙ any_there w is)
          by w false isnt = or_right (any_at s w) true refl

      other_shape : same_name m n ≡ false → same_shape s n ≡ false
      other_shape ne = false_from_ne_true _ (λ same. both_ways _ ne ((same_name-Decides m n).1 (equal_by m n (λ w. by w same (any_at m w) refl))))
        where
          by : (w : Attribute) → same_shape s n ≡ true → (a : Bool) → any_at m w ≡ a → value_of m w ≡ value_of n w
          by w same true is = is_it_any (value_of m w) is ∙ sym (is_it_any (value_of n w) (sym (shape_at s n same w) ∙ sym (shape_at m s shape w) ∙ is))
          by w same false isnt = same_there w isnt

      found_by : same_name m n ≡ false → is_among names m ≡ true → finds_wider names n s ≡ true
      found_by ne among = and_from (is_wider s n) (is_among names (widened s n)) (and_from (is_as_wide s n) (not (same_shape s n)) as_wide (ap not (other_shape ne))) (ap (is_among names) wide_is ∙ among)

  pub under_is : (shapes : List Values) → lower_name n ≡ n → ((m : Values) → is_among names m ≡ true → lower_name m ≡ m) → AreShapes names shapes → list_any (finds_wider names n) shapes ≡ is_under names n
  under_is shapes ln lower known =
      agree (list_any (finds_wider names n) shapes) (is_under names n)
      (λ h. let s = found_among (finds_wider names n) shapes h in found_covers s.0 s.2)
      (λ h.
      let m = found_among (λ k. not (has_wildcards k) && covers_other k n) names h in
      let outer = and_parts (not (has_wildcards m.0)) (covers_other m.0 n) m.2 in
      let inner = and_parts (not (same_name m.0 n)) (covers m.0 n) outer.1 in
      let plain_m = not-true (has_wildcards m.0) outer.0 in
      let s = found_among (same_shape m.0) shapes (known m.0 m.1 plain_m) in
      among_finds (finds_wider names n) shapes s.0 s.1 (found_by ln m.0 (lower m.0 m.1) plain_m inner.1 s.0 s.2 (not-true (same_name m.0 n) inner.0) m.1))

-- ---- gathering shapes

pub shapes_more : (names old new : List Values) (i : ℕ) → i < length names → AreShapes (take i names) old
    → (has_wildcards (get_or names i any_values) ≡ false → list_any (same_shape (get_or names i any_values)) new ≡ true)
    → ((m : Values) → list_any (same_shape m) old ≡ true → list_any (same_shape m) new ≡ true) → AreShapes (take (i + 1) names) new
shapes_more names old new i lt known first kept m among plain =
    elim (or_cases (is_among (take i names) m) (same_name m (get_or names i any_values)) (sym (list_any_more (same_name m) names i any_values lt) ∙ among)) [
      | inl before ↦ kept m (known m before plain)
      | inr here ↦
          let is : m ≡ get_or names i any_values = same_is m (get_or names i any_values) here in
          ap (λ (x : Values). list_any (same_shape x) new) is ∙ first (ap has_wildcards (sym is) ∙ plain)
    ]
