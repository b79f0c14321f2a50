-- Rows are replaced, added and removed: how many are not in the list of changed ones.
use Rattle.std.proofs.Common.{◌≡◌, ℕ, ◌+◌, ◌≤◌, ◌&&◌, ◌||◌, Bool, true, false, not, cond, List, [], ◌∷◌, length, Option, Some, None, Result, Ok, Err, IsOk, IfOk, refl, sym, ap, subst, ◌∙◌, arith}
use Rattle.std.specs.Prelude.{nat_eq}
use Rattle.std.specs.List.Sorted.{IsPermutation}
use Rattle.std.specs.Cmp.{nat_eq_equiv}
use Rattle.std.specs.HashMap.{HashMap, PutsEntry}
use Rattle.std.specs.HashMap as hash
use Rattle.std.specs.Option.{IsSome, option_map, unwrap_or}
use Rattle.std.specs.Map.{lookup, remove_entry, set_value, values_of}
use Rattle.std.proofs.lemmas.Map.{lookup-set_value}
use Rattle.std.proofs.lemmas.Map.Entries.{sum_by-remove_entry, sum_by-set_value, sum_by_puts_entry, sum_by_values_permutation}
use Rattle.std.proofs.lemmas.List.Sums.{sum_by-cons}
use Rattle.cpe_rows.specs.Truth.{same_truth}
use Rattle.cpe_rows.specs.declared.truth.Truth.{Truth}
use Rattle.fact_rows.specs.declared.row.FactRow.{FactRow}
use Rattle.fact_rows.specs.Rows.{is_changed, is_news, KeepsChanged, count_if, fact_row_at, fact_row_with, unchanged}
use Rattle.fact_rows.proofs.LinkLemmas.{nat_decides}

abbrev weight : FactRow → ℕ
weight r = count_if (not r.changed)

-- ---- a row is replaced

pub written : (rows : List (ℕ × FactRow)) (q : ℕ) (r w : FactRow) → fact_row_at rows q ≡ Some r → unchanged (set_value (nat_eq q) rows w) + count_if (not r.changed) ≡ unchanged rows + count_if (not w.changed)
written rows q r w at = sum_by-set_value weight (nat_eq q) rows r w at

same_test : (q x y : ℕ) → nat_eq q x ≡ true → nat_eq q y ≡ nat_eq x y
same_test q x y h = ap (λ (u : ℕ). nat_eq u y) (nat_decides q x h)

pub write_keeps : (rows : List (ℕ × FactRow)) (q : ℕ) (r w : FactRow) → fact_row_at rows q ≡ Some r → w.changed ≡ r.changed → KeepsChanged rows (set_value (nat_eq q) rows w)
write_keeps rows q r w at same = record {
  marks = λ p. lookup_is p (nat_eq q p) refl;
  many = omega (arith, written rows q r w at, ap (λ (b : Bool). count_if (not b)) same);
} where
  found : (p : ℕ) → fact_row_at (set_value (nat_eq q) rows w) p ≡ cond (nat_eq q p) (Some w) (fact_row_at rows p)
  found p = lookup-set_value nat_eq_equiv (nat_eq q) (same_test q) p w rows (subst IsSome (sym at) refl)

  lookup_is : (p : ℕ) (b : Bool) → nat_eq q p ≡ b → is_changed (fact_row_at (set_value (nat_eq q) rows w) p) ≡ is_changed (fact_row_at rows p)
  lookup_is p true e =
      ap is_changed (found p) ∙ ap (λ (b : Bool). is_changed (cond b (Some w) (fact_row_at rows p))) e
      ∙ same ∙ ap is_changed (sym at) ∙ ap (λ (u : ℕ). is_changed (fact_row_at rows u)) (nat_decides q p e)
  lookup_is p false e = ap is_changed (found p) ∙ ap (λ (b : Bool). is_changed (cond b (Some w) (fact_row_at rows p))) e

news_counts : (truth : Truth) (r : FactRow) → count_if (not (fact_row_with truth r).changed) + count_if (is_news truth r) ≡ count_if (not r.changed)
news_counts truth r = go r.changed (same_truth r.truth truth) where
  go : (m s : Bool) → count_if (not (m || not s)) + count_if (not s && not m) ≡ count_if (not m)
  go true true = refl
  go true false = refl
  go false true = refl
  go false false = refl

pub seen_counts : (rows : List (ℕ × FactRow)) (q : ℕ) (r : FactRow) (truth : Truth) → fact_row_at rows q ≡ Some r → unchanged (set_value (nat_eq q) rows (fact_row_with truth r)) + count_if (is_news truth r) ≡ unchanged rows
seen_counts rows q r truth at = omega (arith, written rows q r (fact_row_with truth r) at, news_counts truth r)

light : (r : FactRow) → count_if (not r.changed) ≤ 1
light r = go r.changed where
  go : (b : Bool) → count_if (not b) ≤ 1
  go true = omega arith
  go false = omega arith

pub unmark_counts : (rows : List (ℕ × FactRow)) (q : ℕ) (r w : FactRow) → fact_row_at rows q ≡ Some r → unchanged (set_value (nat_eq q) rows w) ≤ unchanged rows + 1
unmark_counts rows q r w at = omega (arith, written rows q r w at, light w)

-- ---- a row is added or removed

pub put_counts : {S E : Type 0} (m n : HashMap ℕ FactRow S) (k : ℕ) (v : FactRow) (r : Result (Option FactRow) E) → fact_row_at m.entries k ≡ None → IsOk r → IfOk r (λ old. old ≡ hash.get nat_eq m k) → IfOk r (PutsEntry nat_eq m n k v)
    → unchanged n.entries ≡ unchanged m.entries + count_if (not v.changed)
put_counts m n k v (Ok old) none ok is puts =
    let sum : unchanged n.entries + unwrap_or (option_map weight old) 0 ≡ unchanged m.entries + weight v = sum_by_puts_entry weight nat_eq m n k v old is puts in
    let zero : unwrap_or (option_map weight old) 0 ≡ 0 = ap (λ (o : Option FactRow). unwrap_or (option_map weight o) 0) (is ∙ none) in
    omega (arith, sum, zero)
put_counts {S = S} {E = E} m n k v (Err x) none ok is puts = let wrong : false ≡ true = ok in absurd (cc)

pub remove_counts : (rows next : List (ℕ × FactRow)) (q : ℕ) → IsPermutation (remove_entry (nat_eq q) rows) next → unchanged next ≤ unchanged rows
remove_counts rows next q same =
    let perm : unchanged next ≡ unchanged (remove_entry (nat_eq q) rows) = sum_by_values_permutation weight (remove_entry (nat_eq q) rows) next same in
    let taken : unchanged (remove_entry (nat_eq q) rows) + unwrap_or (option_map weight (lookup (nat_eq q) rows)) 0 ≡ unchanged rows = sum_by-remove_entry weight (nat_eq q) rows in
    omega (arith, perm, taken)

pub reordered_counts : (rows next : List (ℕ × FactRow)) → IsPermutation rows next → unchanged next ≡ unchanged rows
reordered_counts rows next same = sum_by_values_permutation weight rows next same

pub few : (rows : List (ℕ × FactRow)) → unchanged rows ≤ length rows
few [] = omega arith
few (e ∷ es) = omega (arith, sum_by-cons weight e.1 (values_of es), light e.1, few es)
