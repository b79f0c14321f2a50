-- Lemmas: the numbers of a list are all different if no number is among those before it.
use Rattle.std.proofs.Common.{◌≡◌, ℕ, ◌+◌, ◌<◌, true, false, eqb, List, length, get_or, take, sym, ap, ◌∙◌, arith, inl, inr}
use Rattle.std.specs.List.{Contains, IsDistinct, list_any}
use Rattle.std.proofs.lemmas.Bool.{cases_Bool, cases_eq, both_ways, eq-eqb}
use Rattle.std.proofs.lemmas.List.{get_or-take, get_or_default, length-take}
use Rattle.std.proofs.lemmas.List.Folds.{list_any_at}
use Rattle.std.proofs.lemmas.Map.Keys.{apart_from_distinct}
use Rattle.deprecation_graph.proofs.Rising.{Contains-any}

module _ (xs : List ℕ) (i : ℕ) (within : i < length xs) where
  pub is_preceded : list_any (λ y. eqb y (get_or xs i 0)) (take i xs) ≡ true → IsDistinct eqb xs → ⊥
  is_preceded found distinct =
      let c : Contains (take i xs) (get_or xs i 0) = Contains-any (get_or xs i 0) (take i xs) found in
      let below : c.0 < i = omega (arith, c.1, length-take i xs) in
      let same : get_or xs c.0 (get_or xs i 0) ≡ get_or xs i 0 = sym (get_or-take i xs c.0 (get_or xs i 0) below) ∙ c.2 in
      both_ways (eqb (get_or xs c.0 (get_or xs i 0)) (get_or xs i (get_or xs i 0)))
      (apart_from_distinct eqb xs c.0 i (get_or xs i 0) distinct below within)
      (eq-eqb (get_or xs c.0 (get_or xs i 0)) (get_or xs i (get_or xs i 0)) (same ∙ get_or_default xs i 0 (get_or xs i 0) within))

  none_before : list_any (λ y. eqb y (get_or xs i 0)) (take i xs) ≡ false → (k d : ℕ) → k < i → eqb (get_or xs k d) (get_or xs i d) ≡ false
  none_before none k d below = elim (cases_Bool (eqb (get_or xs k d) (get_or xs i d))) [
    | inr e ↦ e
    | inl e ↦ absurd (both_ways (list_any (λ y. eqb y (get_or xs i 0)) (take i xs)) none
        (list_any_at (λ y. eqb y (get_or xs i 0)) (take i xs) k d (omega (arith, length-take i xs))
        (ap (λ (y : ℕ). eqb y (get_or xs i 0)) (get_or-take i xs k d below) ∙ ap (eqb (get_or xs k d)) (get_or_default xs i 0 d within) ∙ e)))
  ]

  pub apart_more : ((a b d : ℕ) → a < b → b < i → eqb (get_or xs a d) (get_or xs b d) ≡ false)
      → list_any (λ y. eqb y (get_or xs i 0)) (take i xs) ≡ false → (a b d : ℕ) → a < b → b < i + 1 → eqb (get_or xs a d) (get_or xs b d) ≡ false
  apart_more before none a b d lt below = elim (cases_eq b i) [
    | inl same ↦ ap (λ (c : ℕ). eqb (get_or xs a d) (get_or xs c d)) same ∙ none_before none a d (omega arith)
    | inr ne ↦ before a b d lt (omega arith)
  ]
