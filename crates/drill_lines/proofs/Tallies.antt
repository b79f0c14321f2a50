-- The tally of the first verdicts, and the tally of one more verdict.
use Rattle.std.proofs.Common.{◌≡◌, ℕ, ◌+◌, ◌-◌, ◌^◌, ◌<◌, zero, suc, List, [], ◌∷◌, ◌++◌, length, map, take, slice_get, Option, Some, None, sym, ap, ◌∙◌, arith}
use Rattle.std.specs.Option.{option_map, option_map_or}
use Rattle.std.proofs.lemmas.List.{length-map, length-take}
use Rattle.cpe_rows.specs.Rows.{Rows}
use Rattle.cpe_rows.specs.Verdict.{verdict}
use Rattle.cpe_rows.specs.declared.truth.Truth.{Truth}
use Rattle.drill_lines.specs.declared.tally.Tally.{Tally}
use Rattle.drill_lines.specs.Summary.{tally_of}
use Rattle.drill_lines.proofs.Mapped.{map_more}

abbrev pub first : Rows → ℕ → List Truth
first rows place = map (verdict rows) (take place rows.statements)

-- a list has an element at each place below its length
within : {A B : Type 0} (f : A → B) (xs : List A) (k : ℕ) → k < length xs → None ≡ option_map f (slice_get xs k) → ⊥
within f [] k below none = omega (arith, below)
within f (x ∷ xs) zero below none = absurd (cc)
within f (x ∷ xs) (suc k) below none = within f xs k (omega (arith, below)) none

module _ (rows : Rows) (place : ℕ) (below : place < length rows.statements) where
  -- if the place is less than 2^64 - 1, so is the number of the verdicts before it
  pub few-first : place < 2 ^ 64 - 1 → length (first rows place) < 2 ^ 64 - 1
  few-first few = omega (arith, few, length-map (take place rows.statements) (verdict rows), length-take place rows.statements)

  -- with the verdict at this place, the tally counts one more verdict
  pub tally-next : (truth : Truth) (now : Tally) → Some truth ≡ option_map (verdict rows) (slice_get rows.statements place)
      → now ≡ tally_of (first rows place ++ truth ∷ []) → now ≡ tally_of (first rows (place + 1))
  tally-next truth now so_far is =
      is ∙ ap tally_of (sym (map_more (verdict rows) truth rows.statements place below
      (λ s at. ap (λ (o : Option Truth). option_map_or (λ t. t) o truth) (so_far ∙ ap (option_map (verdict rows)) at))))

  -- there is a statement at this place
  pub none-below : None ≡ option_map (verdict rows) (slice_get rows.statements place) → ⊥
  none-below none = within (verdict rows) rows.statements place below none
