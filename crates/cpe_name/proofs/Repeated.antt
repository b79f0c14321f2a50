-- Lemmas: replacing each byte of a run of equal bytes.
use Rattle.std.proofs.Common.{◌≡◌, ℕ, zero, suc, List, [], ◌∷◌, ◌++◌, replicate, refl, ap, ◌∙◌}
use Rattle.std.specs.List.{flat_map}

-- if a byte is replaced by one byte, a run of n such bytes becomes a run of n new bytes
pub each_made : (make : ℕ → List ℕ) (from to n : ℕ) → make from ≡ to ∷ [] → flat_map make (replicate n from) ≡ replicate n to
each_made make from to zero is = refl
each_made make from to (suc n) is = ap (λ (u : List ℕ). u ++ flat_map make (replicate n from)) is ∙ ap (λ (u : List ℕ). to ∷ u) (each_made make from to n is)
