-- Lemma: the number of results after a result is set.
use Rattle.std.proofs.Common.{◌≡◌, ℕ, suc, nat_le, nat_lt, arith, ◌+◌, ◌||◌, length, List, [], ◌∷◌, Bool, true, false, cond, refl, ap, ◌∙◌}
use Rattle.std.proofs.lemmas.Bool.Decides.{nat_tests}
use Rattle.std.specs.List.{list_any}
use Rattle.cpe_rows.specs.Rows.{has_key}
use Rattle.cpe_rows.specs.After.{with_check}
use Rattle.cpe_rows.specs.declared.test.CheckKey.{CheckKey}
use Rattle.cpe_rows.specs.declared.truth.Truth.{Truth}

-- a result for a known key leaves the number of results unchanged, a result for a new key adds 1
pub length-with : (k : CheckKey) (t : Truth) (cs : List (CheckKey × Truth))
    → length (with_check k t cs) ≡ cond (list_any (has_key k) cs) (length cs) (length cs + 1)
length-with k t [] = refl
length-with k t (c ∷ cs) = go (has_key k c) (list_any (has_key k) cs) (length-with k t cs) where
  go : (b there : Bool) → length (with_check k t cs) ≡ cond there (length cs) (length cs + 1)
      → length (cond b ((c.0, t) ∷ cs) (c ∷ with_check k t cs)) ≡ cond (b || there) (suc (length cs)) (suc (length cs) + 1)
  go true there h = refl
  go false true h = ap suc h
  go false false h = let one : suc (length cs + 1) ≡ suc (length cs) + 1 = omega arith in ap suc h ∙ one

pub at_limit : (m n : ℕ) → nat_le m n ≡ nat_lt m (n + 1)
at_limit m n = grind (arith, nat_tests)
