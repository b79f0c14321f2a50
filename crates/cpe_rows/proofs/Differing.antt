-- Lemmas: two equal lists of truths have no changes.
use Rattle.std.proofs.Common.{◌≡◌, ℕ, ◌+◌, List, [], ◌∷◌, true, cond, Some, refl, ap, ◌∙◌}
use Rattle.cpe_rows.specs.Truth.{same_truth}
use Rattle.cpe_rows.specs.Changes.{change, differing}
use Rattle.cpe_rows.specs.declared.truth.Truth.{Truth}
use Rattle.cpe_rows.specs.declared.truth.Truth.TheVariants.{True, False, Error, Unknown}

same_itself : (t : Truth) → same_truth t t ≡ true
same_itself True = refl
same_itself False = refl
same_itself Error = refl
same_itself Unknown = refl

pub no_difference : (n : ℕ) (ts : List Truth) → differing n ts ts ≡ []
no_difference n [] = refl
no_difference n (t ∷ ts) =
    ap (λ b. cond b (differing (n + 1) ts ts) (change n (Some t) (Some t) ∷ differing (n + 1) ts ts)) (same_itself t) ∙ no_difference (n + 1) ts
