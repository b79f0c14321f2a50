-- Tests that negate another test, and tests that have the same truth.
use Rattle.std.specs.Prelude.{◌≡◌, [], ◌∷◌, true}
use Rattle.cpe_name.specs.Eleven.{Values}
use Rattle.cpe_rows.specs.Truth.{not_of}
use Rattle.cpe_rows.specs.Evaluation.{test_truth}
use Rattle.cpe_rows.specs.declared.truth.Truth.{Truth}
use Rattle.cpe_rows.specs.declared.test.CheckKey.{CheckKey}
use Rattle.cpe_rows.specs.declared.test.Operator.{Operator}
use Rattle.cpe_rows.specs.declared.test.Test.{Test, Logic}

-- the logical test that negates this test, its only child
abbrev pub negation_of : Operator → Test → Test
negation_of o t = Logic o true (t ∷ [])

-- Both tests have the same truth, for all truths of facts and checks.
abbrev pub HaveSameTruth : Test → Test → Type 0
HaveSameTruth s t = (fact : Values → Truth) (check : CheckKey → Truth) → test_truth fact check s ≡ test_truth fact check t

-- The first test has the negated truth of the second, for all truths of facts and checks.
abbrev pub HasNegatedTruth : Test → Test → Type 0
HasNegatedTruth s t =
    (fact : Values → Truth) (check : CheckKey → Truth) → test_truth fact check s ≡ not_of (test_truth fact check t)
