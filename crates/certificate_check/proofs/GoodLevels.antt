-- Lemma: the definition of a good certificate, unfolded by one level of the test.
use Rattle.std.proofs.Common.{◌≡◌, ◌⊎◌, List, [], ◌∷◌, Bool, Option, Some, None, map, refl}
use Rattle.cpe_rows.specs.Rows.{Rows}
use Rattle.cpe_rows.specs.declared.statement.Mode.{Mode}
use Rattle.cpe_rows.specs.declared.test.Operator.{Operator}
use Rattle.cpe_rows.specs.declared.test.Test.{Test, roll-Test}
use Rattle.cpe_rows.specs.declared.test.Test.TheOpen.{Test-F}
use Rattle.cpe_rows.specs.declared.test.Test.TheFolds.{rec-roll-Test, map-Test}
use Rattle.certificate_check.specs.Good.{AreGood, IsOfAll, IsOfOne, GoodLogic, good_step, GoodFor}
use Rattle.certificate_check.specs.declared.certificate.Why.{Why, out-Why}
use Rattle.certificate_check.specs.declared.certificate.Why.TheOpen.{Why-F}

module _ {X : Type 0} (v : X → Test) (k : Test → Why → Type 0) where
  good-map : (xs : List X) (ws : List (Option Why)) → AreGood (λ x. k (v x)) xs ws ≡ AreGood k (map v xs) ws
  good-map [] [] = refl
  good-map [] (w ∷ ws) = refl
  good-map (x ∷ xs) [] = refl
  good-map (x ∷ xs) (None ∷ ws) = good-map xs ws
  good-map (x ∷ xs) (Some w ∷ ws) = λ i. k (v x) w × good-map xs ws i

  pub logic-map : (operator : Operator) (negate : Bool) (xs : List X) (w : Why-F Why)
      → GoodLogic (λ x. k (v x)) operator negate xs w ≡ GoodLogic k operator negate (map v xs) w
  logic-map operator negate xs (Why-F.Logic truth of) =
      λ i. good-map xs of i × (IsOfAll operator negate truth of ⊎ IsOfOne operator negate truth of)
  logic-map operator negate xs (Why-F.Pair truth fact item) = refl
  logic-map operator negate xs (Why-F.Plain truth) = refl

natural : (rows : Rows) (mode : Mode) (X : Type 0) (v : X → Test) (k : Test → Why → Type 0) (x : Test-F X)
    → good_step rows mode X v (λ p. k (v p)) x ≡ good_step rows mode Test (λ y. y) k (map-Test X Test v x)
natural rows mode X v k (Test-F.Logic operator negate of) = λ i w. logic-map v k operator negate of (out-Why w) i
natural rows mode X v k (Test-F.Fact name) = refl
natural rows mode X v k (Test-F.Check key) = refl

-- one level of the definition
pub good-level : (rows : Rows) (mode : Mode) (t : Test-F Test) (w : Why)
    → GoodFor rows mode (roll-Test t) w ≡ good_step rows mode Test (λ y. y) (GoodFor rows mode) t w
unfolding GoodFor
good-level rows mode t w = λ i. rec-roll-Test (Why → Type 0) (good_step rows mode) (natural rows mode) t i w
