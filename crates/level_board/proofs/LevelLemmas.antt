-- Lemmas: the counts of a probe give its level.
use Rattle.std.proofs.Common.{◌≡◌, ◌≢◌, ◌⊎◌, ℕ, ◌<◌, Bool, true, false, cond, List, [], ◌∷◌, Option, Some, None, is_some, count_by, refl, ap, inl, inr, arith, eq-eqb}
use Rattle.std.specs.Prelude.{nat_eq, nat_lt}
use Rattle.std.proofs.lemmas.Bool.{cases_eq, ne_eqb, ltb-true, ltb-false}
use Rattle.std.proofs.lemmas.List.Sums.{sum_by-cons}
use Rattle.name_index.specs.Table.{Names}
use Rattle.name_index.specs.Index.{times_held}
use Rattle.level_board.specs.Targets.{held}
use Rattle.level_board.specs.declared.level.Level.TheVariants.{Covered, Maybe, Free}
use Rattle.level_board.specs.declared.rows.ProbeRow.{ProbeRow}
use Rattle.level_board.specs.declared.parts.BoardParts.{BoardParts}
use Rattle.level_board.specs.Rows.{find_row, level_of}
use Rattle.level_board.specs.Board.{times_if, covers_at, maybe_at, find_times, or_none, board_of_parts, IsBoard, FitsBoard, HasLevel, AreAnswers}

module _ (a : BoardParts) (i : IsBoard a) where
  abbrev rows : List (ℕ × ProbeRow)
  rows = a.probes.rows.entries

  positive : (o : Option ℕ) → ((n : ℕ) → o ≡ Some n → 0 < n) → 0 < times_if (is_some o) → 0 < or_none o
  positive None h lt = absurd (omega (arith, lt))
  positive (Some n) h lt = h n refl

  there : (o : Option ℕ) → 0 < or_none o → 0 < times_if (is_some o)
  there None lt = absurd (omega (arith, lt))
  there (Some n) lt = omega arith

  -- the count of numbers that pass a test is above 0 exactly if some number passes
  some_passes : (test : ℕ → Bool) (xs : List (ℕ × ℕ)) → 0 < count_by (λ (x : ℕ × ℕ). test x.0) xs → (t : ℕ) × (0 < times_held xs t) × (test t ≡ true)
  some_passes test [] lt = absurd (omega (arith, lt))
  some_passes test (x ∷ xs) lt = by (test x.0) refl (some_passes test xs)
    where
      here : 0 < times_held (x ∷ xs) x.0
      here = omega (arith, sum_by-cons (λ (y : ℕ × ℕ). times_if (nat_eq x.0 y.0)) x xs, ap {B = ℕ} times_if (eq-eqb x.0 x.0 refl))

      by : (b : Bool) → test x.0 ≡ b → (0 < count_by (λ (y : ℕ × ℕ). test y.0) xs → (t : ℕ) × (0 < times_held xs t) × (test t ≡ true)) → (t : ℕ) × (0 < times_held (x ∷ xs) t) × (test t ≡ true)
      by true c k = (x.0, here, c)
      by false c k =
          let m = k (omega (arith, lt, sum_by-cons (λ (y : ℕ × ℕ). times_if (test y.0)) x xs, ap {B = ℕ} times_if c)) in
          (m.0, omega (arith, m.1, sum_by-cons (λ (y : ℕ × ℕ). times_if (nat_eq m.0 y.0)) x xs), m.2)

  passes_some : (test : ℕ → Bool) (t : ℕ) (xs : List (ℕ × ℕ)) → 0 < times_held xs t → test t ≡ true → 0 < count_by (λ (x : ℕ × ℕ). test x.0) xs
  passes_some test t [] lt c = absurd (omega (arith, lt))
  passes_some test t (x ∷ xs) lt c = by (cases_eq t x.0) (λ l. passes_some test t xs l c)
    where
      by : (t ≡ x.0) ⊎ (t ≢ x.0) → (0 < times_held xs t → 0 < count_by (λ (y : ℕ × ℕ). test y.0) xs) → 0 < count_by (λ (y : ℕ × ℕ). test y.0) (x ∷ xs)
      by (inl e) k = omega (arith, sum_by-cons (λ (y : ℕ × ℕ). times_if (test y.0)) x xs, ap {B = ℕ} (λ (n : ℕ). times_if (test n)) e, ap {B = ℕ} times_if c)
      by (inr ne) k = omega (arith, sum_by-cons (λ (y : ℕ × ℕ). times_if (test y.0)) x xs, k (omega (arith, lt, sum_by-cons (λ (y : ℕ × ℕ). times_if (nat_eq t y.0)) x xs, ap {B = ℕ} times_if (ne_eqb t x.0 ne))))

  -- some target on the board passes the test
  abbrev SomeTarget : (ℕ → Bool) → Type 0
  SomeTarget test = (t : ℕ) × (0 < or_none (find_times a.targets.entries t)) × (test t ≡ true)

  abbrev count_of : (ℕ → Bool) → ℕ
  count_of test = count_by (λ (x : ℕ × ℕ). test x.0) (held a.target_index)

  some_target : (test : ℕ → Bool) → 0 < count_of test → SomeTarget test
  some_target test lt =
      let m = some_passes test (held a.target_index) lt in
      (m.0, positive (find_times a.targets.entries m.0) (i.target_some m.0) (omega (arith, m.1, i.targets_on m.0)), m.2)

  target_some : (test : ℕ → Bool) → SomeTarget test → 0 < count_of test
  target_some test m = passes_some test m.0 (held a.target_index) (omega (arith, there (find_times a.targets.entries m.0) m.1, i.targets_on m.0)) m.2

  no_target : (test : ℕ → Bool) (n : ℕ) → n ≡ count_of test → nat_lt 0 n ≡ false → ¬ SomeTarget test
  no_target test n is h m = absurd (omega (arith, is, target_some test m, ltb-false 0 n h))

  pub level_law : (names : Names) → FitsBoard (board_of_parts a) names → (p : ℕ) (r : ProbeRow) → find_row rows p ≡ Some r → HasLevel (board_of_parts a) names p (level_of r.hits r.maybes)
  level_law names f p r e = by (nat_lt 0 r.hits) refl (nat_lt 0 r.maybes) refl
    where
      hits : r.hits ≡ count_of (covers_at names p)
      hits = f.counts p r e

      maybes : r.maybes ≡ count_of (maybe_at names p)
      maybes = f.maybes p r e

      by : (x : Bool) → nat_lt 0 r.hits ≡ x → (y : Bool) → nat_lt 0 r.maybes ≡ y → HasLevel (board_of_parts a) names p (cond x Covered (cond y Maybe Free))
      by true h y k = some_target (covers_at names p) (omega (arith, hits, ltb-true 0 r.hits h))
      by false h true k = (no_target (covers_at names p) r.hits hits h, some_target (maybe_at names p) (omega (arith, maybes, ltb-true 0 r.maybes k)))
      by false h false k = (no_target (covers_at names p) r.hits hits h, no_target (maybe_at names p) r.maybes maybes k)

  pub answers : AreAnswers (board_of_parts a)
  answers names p s f e = level_law names f p s e
