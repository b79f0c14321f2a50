-- Good certificates. The definition follows the test and the certificate together, and has a condition for each level.
-- By the law `good_certificates_are_right`, the truth of a good certificate is the verdict.
use Rattle.std.specs.Prelude.{◌≡◌, ◌⊎◌, List, [], ◌∷◌, Bool, true, Option, Some, None, is_some}
use Rattle.std.specs.List.{list_all}
use Rattle.cpe_rows.specs.cpe_name.Eleven.{Values}
use Rattle.cpe_relation.specs.NameRelation.{covers}
use Rattle.cpe_relation.specs.Maybe.{maybe}
use Rattle.cpe_rows.specs.Reach.{Among}
use Rattle.cpe_rows.specs.Rows.{Rows}
use Rattle.cpe_rows.specs.Evaluation.{joined, negated}
use Rattle.cpe_rows.specs.Verdict.{fact_truth, check_truth}
use Rattle.cpe_rows.specs.declared.truth.Truth.{Truth}
use Rattle.cpe_rows.specs.declared.truth.Truth.TheVariants.{True, False, Error, Unknown}
use Rattle.cpe_rows.specs.declared.statement.Mode.{Mode}
use Rattle.cpe_rows.specs.declared.statement.Statement.{Statement}
use Rattle.cpe_rows.specs.declared.test.CheckKey.{CheckKey}
use Rattle.cpe_rows.specs.declared.test.Operator.{Operator}
use Rattle.cpe_rows.specs.declared.test.Operator.TheVariants.{And, Or}
use Rattle.cpe_rows.specs.declared.test.Test.{Test}
use Rattle.cpe_rows.specs.declared.test.Test.TheOpen.{Test-F}
use Rattle.cpe_rows.specs.declared.test.Test.TheFolds.{rec-Test}
use Rattle.certificate_check.specs.Certificates.{given_truths}
use Rattle.certificate_check.specs.Traces.{IsTrace, EndsWith}
use Rattle.certificate_check.specs.declared.certificate.Why.{Why, out-Why}
use Rattle.certificate_check.specs.declared.certificate.Why.TheOpen.{Why-F}

-- ---- logical tests

-- the truth of a child that decides a logical test alone: FALSE for AND, TRUE for OR
abbrev pub deciding : Operator → Truth
deciding And = False
deciding Or = True

-- there is a place for each child, and each given certificate is good for its child
abbrev pub AreGood : {X : Type 0} → (X → Why → Type 0) → List X → List (Option Why) → Type 0
AreGood good [] [] = Unit {0}
AreGood good [] (w ∷ ws) = ⊥
AreGood good (x ∷ xs) [] = ⊥
AreGood good (x ∷ xs) (None ∷ ws) = AreGood good xs ws
AreGood good (x ∷ xs) (Some w ∷ ws) = good x w × AreGood good xs ws

-- every child has a certificate, and the truth is the AND or OR of the children's truths, perhaps negated
abbrev pub IsOfAll : Operator → Bool → Truth → List (Option Why) → Type 0
IsOfAll operator negate truth of = (list_all is_some of ≡ true) × (truth ≡ negated negate (joined operator (given_truths of)))

-- a given truth decides the test alone, and the truth is this one, perhaps negated
abbrev pub IsOfOne : Operator → Bool → Truth → List (Option Why) → Type 0
IsOfOne operator negate truth of = Among (given_truths of) (deciding operator) × (truth ≡ negated negate (deciding operator))

abbrev pub GoodLogic : {X : Type 0} → (X → Why → Type 0) → Operator → Bool → List X → Why-F Why → Type 0
GoodLogic good operator negate children (Why-F.Logic truth of) =
    AreGood good children of × (IsOfAll operator negate truth of ⊎ IsOfOne operator negate truth of)
GoodLogic good operator negate children (Why-F.Pair truth fact item) = ⊥
GoodLogic good operator negate children (Why-F.Plain truth) = ⊥

-- ---- fact references

-- a trace of the fact's name and a trace of an item, whose last names have the relation
pub record HasTraces (relates : Values → Values → Bool) (rows : Rows) (mode : Mode) (name : Values) (fact item : List Values) : Type 0 where
  pub start : Values
  pub fact_end : Values
  pub item_end : Values
  pub is_item : Among rows.items start
  pub fact_trace : IsTrace rows mode name fact
  pub item_trace : IsTrace rows mode start item
  pub fact_ends : EndsWith fact_end fact
  pub item_ends : EndsWith item_end item
  pub related : relates fact_end item_end ≡ true

-- a pair of traces shows TRUE if the fact covers the item, and UNKNOWN if it may cover the item and isn't TRUE
abbrev pub GoodPair : Rows → Mode → Values → Truth → List Values → List Values → Type 0
GoodPair rows mode name True fact item = HasTraces covers rows mode name fact item
GoodPair rows mode name False fact item = ⊥
GoodPair rows mode name Error fact item = ⊥
GoodPair rows mode name Unknown fact item = HasTraces maybe rows mode name fact item × (fact_truth rows mode name ≡ True → ⊥)

abbrev pub GoodFact : Rows → Mode → Values → Why-F Why → Type 0
GoodFact rows mode name (Why-F.Logic truth of) = ⊥
GoodFact rows mode name (Why-F.Pair truth fact item) = GoodPair rows mode name truth fact item
GoodFact rows mode name (Why-F.Plain truth) = (truth ≡ False) × (fact_truth rows mode name ≡ False)

-- ---- check references

abbrev pub GoodCheck : Rows → CheckKey → Why-F Why → Type 0
GoodCheck rows key (Why-F.Logic truth of) = ⊥
GoodCheck rows key (Why-F.Pair truth fact item) = ⊥
GoodCheck rows key (Why-F.Plain truth) = truth ≡ check_truth rows key

-- ---- whole tests

-- one level of a test; `good` is the condition for the certificates of its children
abbrev pub good_step : Rows → Mode → (X : Type 0) → (X → Test) → (X → Why → Type 0) → Test-F X → Why → Type 0
good_step rows mode X seen good (Test-F.Logic operator negate of) w = GoodLogic good operator negate of (out-Why w)
good_step rows mode X seen good (Test-F.Fact name) w = GoodFact rows mode name (out-Why w)
good_step rows mode X seen good (Test-F.Check key) w = GoodCheck rows key (out-Why w)

unfoldable pub GoodFor : Rows → Mode → Test → Why → Type 0
GoodFor rows mode = rec-Test (Why → Type 0) (good_step rows mode)

-- the certificate is good for the statement
abbrev pub Good : Rows → Statement → Why → Type 0
Good rows s w = GoodFor rows s.mode s.test w
