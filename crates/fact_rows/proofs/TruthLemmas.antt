-- The truth of names by their levels, from the first name on.
use Rattle.std.proofs.Common.{◌≡◌, ℕ, ◌+◌, ◌<◌, ◌≤◌, ◌||◌, Bool, true, false, List, [], ◌∷◌, length, drop, get_or, refl, sym, ap, ◌∙◌, drop-cons, add-one}
use Rattle.std.specs.List.{AllByRecursion, list_any}
use Rattle.name_index.specs.declared.table.NameId.{NameId}
use Rattle.level_board.specs.Board.{Board, is_probe_marked, KeepsLevels, level_at, probe_times}
use Rattle.level_board.specs.declared.level.Level.{Level}
use Rattle.cpe_rows.specs.Verdict.{truth}
use Rattle.cpe_rows.specs.declared.truth.Truth.{Truth}
use Rattle.fact_rows.specs.Truths.{any_covered, any_maybe, is_covered_level, is_maybe_level, truth_at_ends}

pub first_there : (xs : List NameId) (i : ℕ) (d : NameId) → i < length xs → drop i xs ≡ get_or xs i d ∷ drop (i + 1) xs
first_there xs i d lt = drop-cons xs i d lt ∙ ap (λ (k : ℕ). get_or xs i d ∷ drop k xs) (sym (add-one i))

-- the truth of names of which none so far is covered
abbrev pub truth_so_far : Board → Bool → List NameId → Truth
truth_so_far board maybe rest = truth (any_covered board rest) (maybe || any_maybe board rest)

grouped : (a b c : Bool) → (a || (b || c)) ≡ ((a || b) || c)
grouped true b c = refl
grouped false b c = refl

module _ (board : Board) (maybe : Bool) (x : NameId) (rest all : List NameId) (here : all ≡ x ∷ rest) where
  pub truth_next : is_covered_level (level_at board x.0) ≡ false → truth_so_far board maybe all ≡ truth_so_far board (maybe || is_maybe_level (level_at board x.0)) rest
  truth_next free =
      ap (truth_so_far board maybe) here
      ∙ ap (λ (b : Bool). truth (b || any_covered board rest) (maybe || (is_maybe_level (level_at board x.0) || any_maybe board rest))) free
      ∙ ap (truth (any_covered board rest)) (grouped maybe (is_maybe_level (level_at board x.0)) (any_maybe board rest))

  pub truth_found : is_covered_level (level_at board x.0) ≡ true → truth_so_far board maybe all ≡ truth true (maybe || any_maybe board all)
  truth_found covered = ap (λ (b : Bool). truth b (maybe || any_maybe board all)) (ap (any_covered board) here ∙ ap (λ (b : Bool). b || any_covered board rest) covered)

-- ---- two boards

module _ (old new : Board) (keeps : KeepsLevels old new) where
  first_free : (a b : Bool) → (a || b) ≡ false → a ≡ false
  first_free true b h = h
  first_free false b h = refl

  rest_free : (a b : Bool) → (a || b) ≡ false → b ≡ false
  rest_free true b h = let wrong : true ≡ false = h in absurd (cc)
  rest_free false b h = h

  tests_stay : (test : Level → Bool) (names : List NameId) → AllByRecursion (λ (x : NameId). 1 ≤ probe_times old x.0) names → AllByRecursion (λ (x : NameId). 1 ≤ probe_times new x.0) names → list_any (λ (x : NameId). is_probe_marked new x.0) names ≡ false
      → list_any (λ (x : NameId). test (level_at new x.0)) names ≡ list_any (λ (x : NameId). test (level_at old x.0)) names
  tests_stay test [] was is free = refl
  tests_stay test (x ∷ names) was is free =
      let here : level_at new x.0 ≡ level_at old x.0 = keeps.levels x.0 was.0 is.0 (first_free (is_probe_marked new x.0) (list_any (λ (y : NameId). is_probe_marked new y.0) names) free) in
      let rest = tests_stay test names was.1 is.1 (rest_free (is_probe_marked new x.0) (list_any (λ (y : NameId). is_probe_marked new y.0) names) free) in
      ap (λ (l : Level). test l || list_any (λ (y : NameId). test (level_at new y.0)) names) here ∙ ap (λ (b : Bool). test (level_at old x.0) || b) rest

pub truths_stay : (old new : Board) (names : List NameId) → KeepsLevels old new → AllByRecursion (λ (x : NameId). 1 ≤ probe_times old x.0) names → AllByRecursion (λ (x : NameId). 1 ≤ probe_times new x.0) names → list_any (λ (x : NameId). is_probe_marked new x.0) names ≡ false
    → truth_at_ends new names ≡ truth_at_ends old names
truths_stay old new names keeps was is free =
    ap (λ (b : Bool). truth b (any_maybe new names)) (tests_stay old new keeps is_covered_level names was is free)
    ∙ ap (truth (any_covered old names)) (tests_stay old new keeps is_maybe_level names was is free)
