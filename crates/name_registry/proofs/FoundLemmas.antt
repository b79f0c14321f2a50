-- Lemmas: two lists of numbers with the same names, in any order, have the same numbers.
use Rattle.std.proofs.Common.{◌≡◌, ℕ, suc, ◌+◌, ◌≤◌, Bool, true, false, cond, ◌||◌, List, [], ◌∷◌, filter, Option, Some, None, refl, sym, ap, subst, ◌∙◌, arith, eq-eqb}
use Rattle.std.specs.Prelude.{nat_eq}
use Rattle.std.specs.List.{list_any}
use Rattle.std.proofs.lemmas.Bool.{or_left, or_right}
use Rattle.std.proofs.lemmas.Option.{none-some}
use Rattle.std.proofs.lemmas.List.Sums.{sum_by-cons}
use Rattle.cpe_rows.specs.cpe_name.Eleven.{Values}
use Rattle.cpe_rows.specs.cpe_name.Equal.{same_name}
use Rattle.name_index.specs.Elements.{SameElements}
use Rattle.name_index.specs.declared.table.NameId.{NameId}
use Rattle.name_index.specs.Table.{IsNameTable, find_kept, Kept, kept_at, Names}
use Rattle.names_in_order.specs.InOrder.{AreListedNames as AreLiveAt, names_numbered, same_id}
use Rattle.names_in_order.specs.Marked.{without_first_place}
use Rattle.names_in_order.proofs.ChangeLemmas.{covered_live, passes, passing_names, weighs_less}
use Rattle.fact_laws.specs.Shown.{names_at, times_in_list}
use Rattle.fact_laws.proofs.Shown.{live_is, number_first, other_number, times_agree}
use Rattle.name_registry.specs.Registered.{AreRegistryNames}

-- ---- numbers that both lists have equally often

own : (x : NameId) (xs : List NameId) → times_in_list x.0 (x ∷ xs) ≡ 1 + times_in_list x.0 xs
own x xs = omega (arith, number_first x.0 x xs, ap {B = ℕ} (λ (b : Bool). cond b 1 0) (eq-eqb x.0 x.0 refl))

some_there : (x : NameId) (xs : List NameId) → 1 ≤ times_in_list x.0 xs → list_any (same_id x) xs ≡ true
some_there x [] h = absurd (omega (arith, h))
some_there x (y ∷ xs) h = by (same_id x y) refl (some_there x xs)
  where
    by : (b : Bool) → same_id x y ≡ b → (1 ≤ times_in_list x.0 xs → list_any (same_id x) xs ≡ true) → (same_id x y || list_any (same_id x) xs) ≡ true
    by true e later = or_left (same_id x y) (list_any (same_id x) xs) e
    by false e later = or_right (same_id x y) (list_any (same_id x) xs) (later (omega (arith, h, number_first x.0 y xs, ap {B = ℕ} (λ (b : Bool). cond b 1 0) e)))

numbers_same : (xs ys : List NameId) → ((q : ℕ) → times_in_list q xs ≡ times_in_list q ys) → SameElements xs ys
numbers_same [] [] same f = refl
numbers_same [] (y ∷ ys) same f = absurd (omega (arith, same y.0, own y ys))
numbers_same (x ∷ xs) ys same f =
    let there = some_there x ys (omega (arith, same x.0, own x xs)) in
    let rest = numbers_same xs (without_first_place (same_id x) ys) (λ q. omega (arith, same q, number_first q x xs, weighs_less (λ (y : NameId). cond (nat_eq q y.0) 1 0) ys x there)) f in
    omega (arith, sum_by-cons f x xs, weighs_less f ys x there, rest)

-- ---- numbers by their names

none_gone : (table : Names) (q : ℕ) → find_kept table q ≡ None → (xs : List NameId) → AreRegistryNames table xs → times_in_list q xs ≡ 0
none_gone table q none [] live = refl
none_gone table q none (x ∷ xs) live =
    omega (
      arith,
      number_first q x xs,
      ap {B = ℕ} (λ (b : Bool). cond b 1 0) (other_number q x.0 (λ is. absurd (none-some (kept_at table x.0) (sym none ∙ ap (find_kept table) is ∙ live_is table x.0 live.0)))),
      none_gone table q none xs live.1,
    )

by_names : (table : Names) → IsNameTable table → (xs ys : List NameId) → AreRegistryNames table xs → AreRegistryNames table ys → SameElements (names_at table xs) (names_at table ys) → SameElements xs ys
by_names table are xs ys live there same = numbers_same xs ys (λ q. by q (find_kept table q) refl)
  where
    by : (q : ℕ) (o : Option Kept) → find_kept table q ≡ o → times_in_list q xs ≡ times_in_list q ys
    by q None e = none_gone table q e xs live ∙ sym (none_gone table q e ys there)
    by q (Some k) e = times_agree table are q k e xs live ∙ same (λ (n : Values). cond (same_name k.name n) 1 0) ∙ sym (times_agree table are q k e ys there)

-- ---- the numbers whose names pass a test

each_live : (table : Names) (numbers : List NameId) → AreLiveAt table numbers → AreRegistryNames table numbers
each_live table [] live = tt
each_live table (x ∷ numbers) live = (live 0 x refl, each_live table numbers (λ k y at. live (suc k) y at))

pub found_numbers : (table : Names) → IsNameTable table → (numbers found : List NameId) (test : Values → Bool) → AreLiveAt table numbers → AreRegistryNames table found
    → SameElements (filter test (names_numbered table numbers)) (names_at table found) → SameElements (filter (passes test table) numbers) found
found_numbers table are numbers found test live there same =
    by_names table are (filter (passes test table) numbers) found (each_live table (filter (passes test table) numbers) (covered_live table numbers (passes test table) live)) there
    (subst (λ (ns : List Values). SameElements ns (names_at table found)) (sym (passing_names test table numbers)) same)
