-- Lemmas about reading successors in order: finding the first unknown successor, and the first repeated number.
use Rattle.std.proofs.Common.{◌≡◌, ℕ, ◌+◌, ◌<◌, Bool, true, false, cond, eqb, not, ◌||◌, if◌then◌else◌, List, [], ◌∷◌, ◌++◌, length, take, drop, get_or, refl, sym, ap, ◌∙◌, append_assoc, position, eq-eqb, arith, ◌≤◌}
use Rattle.std.specs.Cmp.{both_ways as both}
use Rattle.std.specs.Prelude.{Option, Some, None, is_some, option_map}
use Rattle.std.specs.List.{list_any, position_from, cons_option}
use Rattle.std.proofs.Math.Bool.{or_comm}
use Rattle.std.proofs.lemmas.Bool.{eqb-true}
use Rattle.std.proofs.lemmas.Option.{same_Some, none-some}
use Rattle.std.proofs.lemmas.List.Folds.{list_any_more}
use Rattle.std.proofs.lemmas.Iterator.Adapters.{position_from-zero}
use Rattle.cpe_rows.specs.cpe_name.Eleven.{Values}
use Rattle.cpe_rows.specs.Faults.{place_of, repeated_from}
use Rattle.cpe_rows.specs.Rows.{is_named}
use Rattle.cpe_rows.specs.declared.entry.Entry.{Entry}
use Rattle.cpe_rows.proofs.Lists.{has_place}
use Rattle.cpe_dictionary.specs.Numbers.{numbers_of}
use Rattle.cpe_dictionary.proofs.names_in_order.Rows.{item_first}

-- ---- numbers that were already read

turned : (a b : ℕ) → eqb a b ≡ eqb b a
turned a b = both (eqb a b) (eqb b a) (λ h. eq-eqb b a (sym (eqb-true a b h))) (λ h. eq-eqb a b (sym (eqb-true b a h)))

pub any_turned : (x : ℕ) (xs : List ℕ) → list_any (λ y. eqb y x) xs ≡ list_any (eqb x) xs
any_turned x [] = refl
any_turned x (y ∷ ys) = λ i. turned y x i || any_turned x ys i

-- the two lists have the same numbers
AreAlike : List ℕ → List ℕ → Type 0
AreAlike seen more = (x : ℕ) → list_any (eqb x) seen ≡ list_any (eqb x) more

alike_repeats : (seen more : List ℕ) (k : ℕ) (xs : List ℕ) → ((x : ℕ) → list_any (eqb x) seen ≡ list_any (eqb x) more) → repeated_from eqb seen k xs ≡ repeated_from eqb more k xs
alike_repeats seen more k [] h = refl
alike_repeats seen more k (x ∷ xs) h =
    let rest = alike_repeats (x ∷ seen) (x ∷ more) (k + 1) xs (λ y. ap (λ (b : Bool). eqb y x || b) (h y)) in
    λ i. if h x i then Some k else rest i

one_more : (xs : List ℕ) (i d x : ℕ) → i < length xs → list_any (eqb x) (get_or xs i d ∷ take i xs) ≡ list_any (eqb x) (take (i + 1) xs)
one_more xs i d x lt = or_comm (eqb x (get_or xs i d)) (list_any (eqb x) (take i xs)) ∙ sym (list_any_more (eqb x) xs i d lt)

module _ (xs : List ℕ) (i d : ℕ) (lt : i < length xs) where
  at_item : (k : ℕ) → repeated_from eqb (take i xs) k (drop i xs) ≡ (if list_any (eqb (get_or xs i d)) (take i xs) then Some k else repeated_from eqb (take (i + 1) xs) (k + 1) (drop (i + 1) xs))
  at_item k =
      ap (repeated_from eqb (take i xs) k) (item_first xs i d lt)
      ∙ ap (λ (o : Option ℕ). if list_any (eqb (get_or xs i d)) (take i xs) then Some k else o) (alike_repeats (get_or xs i d ∷ take i xs) (take (i + 1) xs) (k + 1) (drop (i + 1) xs) (λ x. one_more xs i d x lt))

  pub repeated_here : (k : ℕ) → list_any (λ y. eqb y (get_or xs i d)) (take i xs) ≡ true → repeated_from eqb (take i xs) k (drop i xs) ≡ Some k
  repeated_here k h =
      at_item k ∙ ap (λ (b : Bool). if b then Some k else repeated_from eqb (take (i + 1) xs) (k + 1) (drop (i + 1) xs)) (sym (any_turned (get_or xs i d) (take i xs)) ∙ h)

  pub repeated_behind : (k : ℕ) → list_any (λ y. eqb y (get_or xs i d)) (take i xs) ≡ false → repeated_from eqb (take i xs) k (drop i xs) ≡ repeated_from eqb (take (i + 1) xs) (k + 1) (drop (i + 1) xs)
  repeated_behind k h =
      at_item k ∙ ap (λ (b : Bool). if b then Some k else repeated_from eqb (take (i + 1) xs) (k + 1) (drop (i + 1) xs)) (sym (any_turned (get_or xs i d) (take i xs)) ∙ h)

-- ---- unknown names

-- whether no entry has the name
abbrev pub is_unknown : List Entry → Values → Bool
is_unknown es n = not (list_any (is_named n) es)

pub place_from_start : (es : List Entry) (ns : List Values) → place_of (is_unknown es) ns ≡ option_map (λ k. k + 1) (position_from (is_unknown es) 0 ns)
place_from_start es ns = ap (option_map (λ k. k + 1)) (position_from-zero (is_unknown es) ns)

-- a place that is counted from i is at least i
pub position_past : (p : Entry → Bool) (i : ℕ) (es : List Entry) (k : ℕ) → position_from p i es ≡ Some k → i ≤ k
position_past p i [] k h = absurd (none-some k h)
position_past p i (e ∷ es) k h = go (p e) h (position_past p (i + 1) es k)
  where
    go : (b : Bool) → cond b (Some i) (position_from p (i + 1) es) ≡ Some k → (position_from p (i + 1) es ≡ Some k → i + 1 ≤ k) → i ≤ k
    go true at rest = let same = same_Some i k at in omega arith
    go false at rest = let less = rest at in omega arith

pub unknown_by_place : (es : List Entry) (n : Values) → is_unknown es n ≡ not (is_some (position (is_named n) es))
unknown_by_place es n = ap not (sym (has_place (is_named n) es))

module _ (es : List Entry) (ns : List Values) (i : ℕ) (n : Values) (first : drop i ns ≡ n ∷ drop (i + 1) ns) where
  at_name : (k : ℕ) → position_from (is_unknown es) k (drop i ns) ≡ cond (not (is_some (position (is_named n) es))) (Some k) (position_from (is_unknown es) (k + 1) (drop (i + 1) ns))
  at_name k = ap (position_from (is_unknown es) k) first ∙ ap (λ (b : Bool). cond b (Some k) (position_from (is_unknown es) (k + 1) (drop (i + 1) ns))) (unknown_by_place es n)

  pub unknown_here : (k : ℕ) → position (is_named n) es ≡ None → position_from (is_unknown es) k (drop i ns) ≡ Some k
  unknown_here k h = at_name k ∙ ap (λ (o : Option ℕ). cond (not (is_some o)) (Some k) (position_from (is_unknown es) (k + 1) (drop (i + 1) ns))) h

  pub known_here : (k p : ℕ) → position (is_named n) es ≡ Some p → position_from (is_unknown es) k (drop i ns) ≡ position_from (is_unknown es) (k + 1) (drop (i + 1) ns)
  known_here k p h = at_name k ∙ ap (λ (o : Option ℕ). cond (not (is_some o)) (Some k) (position_from (is_unknown es) (k + 1) (drop (i + 1) ns))) h

  pub number_more : (done : List ℕ) (p : ℕ) → position (is_named n) es ≡ Some p → done ++ numbers_of es (drop i ns) ≡ numbers_of es ns → (done ++ p ∷ []) ++ numbers_of es (drop (i + 1) ns) ≡ numbers_of es ns
  number_more done p h before =
      append_assoc done (p ∷ []) (numbers_of es (drop (i + 1) ns))
      ∙ ap (λ (o : Option ℕ). done ++ cons_option o (numbers_of es (drop (i + 1) ns))) (sym h)
      ∙ ap (λ (ms : List Values). done ++ numbers_of es ms) (sym first)
      ∙ before
