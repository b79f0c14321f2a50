-- Marks at the places of covered names.
use Rattle.std.proofs.Common.{◌≡◌, ℕ, ◌+◌, ◌<◌, ◌≤◌, Bool, true, false, cond, eqb, ◌||◌, ◌&&◌, List, [], ◌∷◌, length, get_or, take, refl, sym, ap, ◌∙◌, arith, eqb-true, eq-eqb}
use Rattle.std.specs.List.{list_any, range_with_len, sum_by}
use Rattle.std.proofs.lemmas.List.Folds.{list_any_at, list_any_more}
use Rattle.std.proofs.lemmas.List.FromFn.{length-range_with_len, get_or-range_with_len}
use Rattle.std.proofs.lemmas.List.Sums.{sum_by-cons}
use Rattle.std.proofs.lemmas.Map.Views.{any-filter_same}
use Rattle.cpe_rows.specs.cpe_name.Eleven.{Values}
use Rattle.cpe_rows.specs.cpe_name.Names.{any_values}
use Rattle.cpe_relation.specs.NameRelation.{covers}
use Rattle.cpe_rows.specs.Names.{has_wildcards}
use Rattle.names_in_order.specs.Places.{name_of_place, near_count, places_covered}
use Rattle.cover_lines.specs.Marks.{AreCoverMarks, is_name_marked, matches_name}
use Rattle.cover_lines.specs.Names.{pattern_looks}

-- a place is among the places of the covered names exactly if its name is covered
pub covered_at : (name : Values) (names : List Values) (k : ℕ) → k < length names → list_any (eqb k) (places_covered name names) ≡ covers name (name_of_place names k)
covered_at name names k lt =
    any-filter_same (eqb k) p (p k) (λ j h. ap p (sym (eqb-true k j h))) (range_with_len 0 (length names))
    ∙ ap (λ (b : Bool). p k && b) (list_any_at (eqb k) (range_with_len 0 (length names)) k 0 (omega (arith, lt, length-range_with_len 0 (length names))) (eq-eqb k (get_or (range_with_len 0 (length names)) k 0) (sym (get_or-range_with_len 0 (length names) k 0 lt ∙ omega arith))))
    ∙ and_true (p k)
  where
    p : ℕ → Bool
    p j = covers name (name_of_place names j)

    and_true : (b : Bool) → (b && true) ≡ b
    and_true true = refl
    and_true false = refl

-- the marks after one more source
pub marks_more : (names : List Values) (old new : List Bool) (i : ℕ) → i < length names → AreCoverMarks (take i names) names old → length new ≡ length old
    → ((k : ℕ) → k < length names → is_name_marked new k ≡ (is_name_marked old k || matches_name (name_of_place names i) (name_of_place names k))) → AreCoverMarks (take (i + 1) names) names new
marks_more names old new i lt marks len step = record {
  len = len ∙ marks.len;
  marked = λ k in_k. step k in_k ∙ ap (λ (b : Bool). b || matches_name (name_of_place names i) (name_of_place names k)) (marks.marked k in_k) ∙ sym (list_any_more (λ m. matches_name m (name_of_place names k)) names i any_values lt);
}

-- the names with specials take no more looks than all names
pub fewer_looks : (names sources : List Values) → sum_by (pattern_looks names) sources ≤ sum_by (λ n. near_count n names) sources
fewer_looks names [] = omega arith
fewer_looks names (n ∷ ns) = omega (arith, sum_by-cons (pattern_looks names) n ns, sum_by-cons (λ m. near_count m names) n ns, fewer_looks names ns, one (has_wildcards n))
  where
    one : (b : Bool) → cond b (near_count n names) 0 ≤ near_count n names
    one true = omega arith
    one false = omega arith
