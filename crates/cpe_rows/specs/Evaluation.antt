-- The truth of a test (NIST IR 7698), from the truths of its facts and checks.
use Rattle.std.specs.Prelude.{List, Bool, true, false}
use Rattle.cpe_name.specs.Eleven.{Values}
use Rattle.cpe_rows.specs.Truth.{and_all, or_all, not_of}
use Rattle.cpe_rows.specs.declared.truth.Truth.{Truth}
use Rattle.cpe_rows.specs.declared.test.CheckKey.{CheckKey}
use Rattle.cpe_rows.specs.declared.test.Operator.{Operator}
use Rattle.cpe_rows.specs.declared.test.Operator.TheVariants.{And, Or}
use Rattle.cpe_rows.specs.declared.test.Test.{Test}
use Rattle.cpe_rows.specs.declared.test.Test.TheOpen.{Test-F}
use Rattle.cpe_rows.specs.declared.test.Test.TheFolds.{fold-Test}

-- the truths of the children, joined by the operator
abbrev pub joined : Operator → List Truth → Truth
joined And ts = and_all ts
joined Or ts = or_all ts

-- the joined truth, negated if the test negates
abbrev pub negated : Bool → Truth → Truth
negated true t = not_of t
negated false t = t

-- the truth of a test, from the truths of its children
abbrev pub test_truth_step : (Values → Truth) → (CheckKey → Truth) → Test-F Truth → Truth
test_truth_step fact check (Test-F.Logic operator negate of) = negated negate (joined operator of)
test_truth_step fact check (Test-F.Fact name) = fact name
test_truth_step fact check (Test-F.Check key) = check key

abbrev pub test_truth : (Values → Truth) → (CheckKey → Truth) → Test → Truth
test_truth fact check = fold-Test Truth (test_truth_step fact check)
