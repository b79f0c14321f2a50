-- Lemmas about sums that stop at the largest number, computed one addend at a time.
use Rattle.std.proofs.Common.{◌≡◌, ◌<◌, ℕ, ◌+◌, List, [], ◌∷◌, ◌++◌, Bool, map, length, take, get_or, sym, ap, ◌∙◌, arith}
use Rattle.std.proofs.lemmas.List.{map_more}
use Rattle.cpe_rows.specs.Weight.{total_weight, weighs, test_weight, test_weight_step}
use Rattle.cpe_rows.specs.declared.test.Operator.{Operator}
use Rattle.cpe_rows.specs.declared.test.Test.{Test, Logic}
use Rattle.cpe_rows.specs.declared.test.Test.TheFolds.{fold-roll-Test}
use Rattle.cpe_rows.specs.declared.test.Test.TheVariants.{rolls-Logic}
use Rattle.cpe_rows.specs.declared.test.Test.TheOpen.{Test-F}
use Rattle.row_weight.specs.Capped.{capped}

total-last : (ns : List ℕ) (n : ℕ) → total_weight (ns ++ n ∷ []) ≡ total_weight ns + n
total-last [] n = omega arith
total-last (m ∷ ns) n = let more = total-last ns n in omega (arith, more)

capped-more : {sum next after : ℕ} (start before one : ℕ) → sum ≡ capped (start + before) → next ≡ capped (sum + one) → after ≡ before + one
    → next ≡ capped (start + after)
capped-more {sum} {next} {after} start before one so_far last more = grind arith

module _ {A : Type 0} (w : A → ℕ) (xs : List A) (i : ℕ) (x : A) (below : i < length xs) (is : x ≡ get_or xs i x) where
  total-more : total_weight (map w (take (i + 1) xs)) ≡ total_weight (map w (take i xs)) + w x
  total-more =
      ap total_weight (map_more w xs i x below)
      ∙ (total-last (map w (take i xs)) (w (get_or xs i x)) ∙ ap (λ y. total_weight (map w (take i xs)) + w y) (sym is))

  -- The sum of the addends so far, with one more addend.
  pub one_more : {sum next : ℕ} (start : ℕ) → sum ≡ capped (start + total_weight (map w (take i xs))) → next ≡ capped (sum + w x)
      → next ≡ capped (start + total_weight (map w (take (i + 1) xs)))
  one_more start so_far last = capped-more start (total_weight (map w (take i xs))) (w x) so_far last total-more

pub weight-logic : (operator : Operator) (negate : Bool) (of : List Test)
    → test_weight (Logic operator negate of) ≡ weighs 0 + total_weight (map test_weight of)
weight-logic operator negate of =
    ap test_weight (sym (rolls-Logic operator negate of)) ∙ fold-roll-Test ℕ test_weight_step (Test-F.Logic operator negate of)
