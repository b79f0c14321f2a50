-- A name is in the cover exactly if no other name covers it.
use Rattle.std.proofs.Common.{◌≡◌, ◌⊎◌, ℕ, ◌+◌, ◌<◌, Bool, true, false, cond, not, ◌||◌, ◌&&◌, List, [], ◌∷◌, ◌++◌, length, take, refl, sym, ap, ◌∙◌, inl, inr}
use Rattle.std.specs.Cmp.{both_ways as agree}
use Rattle.std.specs.List.{filter, list_any}
use Rattle.std.proofs.lemmas.Bool.{and_from, and_parts, both_ways, cases_Bool, false_from_ne_true, or_cases, or_left, or_right}
use Rattle.std.proofs.lemmas.List.{append-nil}
use Rattle.std.proofs.lemmas.List.Elements.{filter_more}
use Rattle.std.proofs.lemmas.List.Folds.{list_any_at}
use Rattle.cpe_rows.specs.cpe_name.Eleven.{Values}
use Rattle.cpe_rows.specs.cpe_name.Equal.{same_name}
use Rattle.cpe_rows.specs.cpe_name.Lower.{lower_name}
use Rattle.cpe_rows.specs.cpe_name.Names.{any_values}
use Rattle.cpe_relation.specs.NameRelation.{covers}
use Rattle.cpe_rows.specs.Names.{has_wildcards}
use Rattle.names_in_order.specs.Places.{name_of_place}
use Rattle.cover_lines.specs.Cover.{covers_other, is_covered_by_some}
use Rattle.cover_lines.specs.Laws.{is_among}
use Rattle.cover_lines.specs.Marks.{AreCoverMarks, is_matched, matches_name, stays}
use Rattle.cover_lines.specs.Shapes.{AreShapes, finds_wider, is_under}
use Rattle.cover_lines.proofs.Among.{among_finds, found_among, itself, same_is}
use Rattle.cover_lines.proofs.ShapeLemmas.{covered_plain, under_is}

-- a covered name is covered by a name with a special, or by another name without one
covered_is : (names : List Values) (n : Values) → is_covered_by_some names n ≡ (is_matched names n || is_under names n)
covered_is names n = agree (is_covered_by_some names n) (is_matched names n || is_under names n) forth (λ h. back (or_cases (is_matched names n) (is_under names n) h))
  where
    forth : is_covered_by_some names n ≡ true → (is_matched names n || is_under names n) ≡ true
    forth h =
        let m = found_among (λ k. covers_other k n) names h in
        elim (cases_Bool (has_wildcards m.0)) [
          | inl special ↦ or_left (is_matched names n) (is_under names n) (among_finds (λ k. matches_name k n) names m.0 m.1 (and_from (has_wildcards m.0) (covers m.0 n) special (and_parts (not (same_name m.0 n)) (covers m.0 n) m.2).1))
          | inr plain ↦ or_right (is_matched names n) (is_under names n) (among_finds (λ k. not (has_wildcards k) && covers_other k n) names m.0 m.1 (and_from (not (has_wildcards m.0)) (covers_other m.0 n) (ap not plain) m.2))
        ]

    back : (is_matched names n ≡ true) ⊎ (is_under names n ≡ true) → is_covered_by_some names n ≡ true
    back (inl h) =
        let m = found_among (λ k. matches_name k n) names h in
        let parts = and_parts (has_wildcards m.0) (covers m.0 n) m.2 in
        let other : same_name m.0 n ≡ false = false_from_ne_true _ (λ e. both_ways (has_wildcards m.0) (ap has_wildcards (same_is m.0 n e) ∙ covered_plain m.0 n parts.1) parts.0) in
        among_finds (λ k. covers_other k n) names m.0 m.1 (and_from (not (same_name m.0 n)) (covers m.0 n) (ap not other) parts.1)
    back (inr h) =
        let m = found_among (λ k. not (has_wildcards k) && covers_other k n) names h in
        among_finds (λ k. covers_other k n) names m.0 m.1 (and_parts (not (has_wildcards m.0)) (covers_other m.0 n) m.2).1

-- a name with a special is never covered
special_free : (names : List Values) (n : Values) → has_wildcards n ≡ true → is_covered_by_some names n ≡ false
special_free names n special = false_from_ne_true _ (λ h.
    let m = found_among (λ k. covers_other k n) names h in
    both_ways (has_wildcards n) (covered_plain m.0 n (and_parts (not (same_name m.0 n)) (covers m.0 n) m.2).1) special)

module _ (names shapes : List Values) (marks : List Bool) (lower : (m : Values) → is_among names m ≡ true → lower_name m ≡ m) (known : AreShapes names shapes) (marked : AreCoverMarks names names marks) where
  pub stays_uncovered : (k : ℕ) → k < length names → is_among names (name_of_place names k) ≡ true → stays names shapes marks k ≡ not (is_covered_by_some names (name_of_place names k))
  stays_uncovered k lt among =
      ap (λ (b : Bool). not b && (has_wildcards n || not (list_any (finds_wider names n) shapes))) (marked.marked k lt) ∙ by (has_wildcards n) refl
    where
      n : Values
      n = name_of_place names k

      neither : (a b : Bool) → (not a && not b) ≡ not (a || b)
      neither true b = refl
      neither false b = refl

      left : (a b : Bool) → (a || b) ≡ false → (not a && true) ≡ not (a || b)
      left true b e = absurd cc
      left false b e = ap not (sym e)

      by : (s : Bool) → has_wildcards n ≡ s → (not (is_matched names n) && (s || not (list_any (finds_wider names n) shapes))) ≡ not (is_covered_by_some names n)
      by true special = left (is_matched names n) (is_under names n) (sym (covered_is names n) ∙ special_free names n special) ∙ ap not (sym (covered_is names n))
      by false plain =
          ap (λ (b : Bool). not (is_matched names n) && not b) (under_is names n plain shapes (lower n among) lower known)
          ∙ neither (is_matched names n) (is_under names n)
          ∙ ap not (sym (covered_is names n))

-- one more place
pub gathered_more : (p : Values → Bool) (names rows new : List Values) (i : ℕ) (b : Bool) → i < length names → rows ≡ filter p (take i names) → b ≡ p (name_of_place names i)
    → new ≡ cond b (rows ++ name_of_place names i ∷ []) rows → new ≡ filter p (take (i + 1) names)
gathered_more p names rows new i b lt before is step =
    step ∙ (λ j. cond (is j) (before j ++ name_of_place names i ∷ []) (before j)) ∙ by (p (name_of_place names i)) ∙ sym (filter_more p names i any_values lt)
  where
    by : (c : Bool) → cond c (filter p (take i names) ++ name_of_place names i ∷ []) (filter p (take i names)) ≡ filter p (take i names) ++ cond c (name_of_place names i ∷ []) []
    by true = refl
    by false = sym (append-nil (filter p (take i names)))

pub occurs_among : (names : List Values) (k : ℕ) → k < length names → is_among names (name_of_place names k) ≡ true
occurs_among names k lt = list_any_at (same_name (name_of_place names k)) names k any_values lt (itself (name_of_place names k))
