-- The tests that the code makes of a certificate, level by level. In lawful rows a certificate passes exactly if it is
-- good.
use Rattle.std.specs.Prelude.{◌&&◌, ◌||◌, not, List, [], ◌∷◌, Bool, true, false, Option, Some, None, is_some}
use Rattle.std.specs.List.{list_any, list_all, last_or}
use Rattle.std.specs.Option.{option_map_or}
use Rattle.cpe_rows.specs.cpe_name.Eleven.{Values}
use Rattle.cpe_relation.specs.NameRelation.{covers}
use Rattle.cpe_relation.specs.Maybe.{maybe}
use Rattle.cpe_rows.specs.Names.{is_same}
use Rattle.cpe_rows.specs.Rows.{Rows}
use Rattle.cpe_rows.specs.Truth.{same_truth}
use Rattle.cpe_rows.specs.Evaluation.{joined, negated}
use Rattle.cpe_rows.specs.Verdict.{fact_truth, check_truth}
use Rattle.cpe_rows.specs.declared.entry.Entry.{Entry}
use Rattle.cpe_rows.specs.declared.truth.Truth.{Truth}
use Rattle.cpe_rows.specs.declared.truth.Truth.TheVariants.{True, False, Error, Unknown}
use Rattle.cpe_rows.specs.declared.statement.Mode.{Mode}
use Rattle.cpe_rows.specs.declared.test.CheckKey.{CheckKey}
use Rattle.cpe_rows.specs.declared.test.Operator.{Operator}
use Rattle.cpe_rows.specs.declared.test.Test.{Test}
use Rattle.cpe_rows.specs.declared.test.Test.TheOpen.{Test-F}
use Rattle.cpe_rows.specs.declared.test.Test.TheFolds.{fold-Test}
use Rattle.certificate_check.specs.Certificates.{given_truths}
use Rattle.certificate_check.specs.Good.{deciding}
use Rattle.certificate_check.specs.Leading.{followed, next_of, is_end_of}
use Rattle.certificate_check.specs.declared.certificate.Why.{Why, out-Why}
use Rattle.certificate_check.specs.declared.certificate.Why.TheOpen.{Why-F}

-- ---- traces

-- each name is a successor of the name before, and the last name is an end
abbrev pub is_walk : List Entry → List Values → Bool
is_walk entries [] = false
is_walk entries (n ∷ []) = is_end_of entries n
is_walk entries (n ∷ m ∷ names) = list_any (is_same m) (next_of entries n) && is_walk entries (m ∷ names)

-- the first name meets the condition
abbrev pub first_passes : (Values → Bool) → List Values → Bool
first_passes passes [] = false
first_passes passes (n ∷ names) = passes n

-- the last names of the two lists have the relation
abbrev pub last_relates : (Values → Values → Bool) → Option Values → Option Values → Bool
last_relates relates (Some f) (Some i) = relates f i
last_relates relates (Some f) None = false
last_relates relates None i = false

abbrev pub is_fit : (Values → Values → Bool) → Rows → Mode → Values → List Values → List Values → Bool
is_fit relates rows mode name fact item =
    (first_passes (is_same name) fact && is_walk (followed rows mode) fact)
    && ((first_passes (λ n. list_any (is_same n) rows.items) item && is_walk (followed rows mode) item)
    && last_relates relates (last_or None fact) (last_or None item))

-- ---- levels

-- there is a place for each child, and each given certificate passes its child's test
abbrev pub all_pass : List (Why → Bool) → List (Option Why) → Bool
all_pass [] [] = true
all_pass [] (w ∷ ws) = false
all_pass (p ∷ ps) [] = false
all_pass (p ∷ ps) (w ∷ ws) = option_map_or p w true && all_pass ps ws

abbrev pub is_of_all : Operator → Bool → Truth → List (Option Why) → Bool
is_of_all operator negate truth of = list_all is_some of && same_truth truth (negated negate (joined operator (given_truths of)))

abbrev pub is_of_one : Operator → Bool → Truth → List (Option Why) → Bool
is_of_one operator negate truth of =
    list_any (same_truth (deciding operator)) (given_truths of) && same_truth truth (negated negate (deciding operator))

abbrev pub is_settled : Operator → Bool → Truth → List (Option Why) → Bool
is_settled operator negate truth of = is_of_all operator negate truth of || is_of_one operator negate truth of

abbrev pub logic_passes : List (Why → Bool) → Operator → Bool → Why-F Why → Bool
logic_passes passes operator negate (Why-F.Logic truth of) = all_pass passes of && is_settled operator negate truth of
logic_passes passes operator negate (Why-F.Pair truth fact item) = false
logic_passes passes operator negate (Why-F.Plain truth) = false

abbrev pub pair_passes : Rows → Mode → Values → Truth → List Values → List Values → Bool
pair_passes rows mode name True fact item = is_fit covers rows mode name fact item
pair_passes rows mode name False fact item = false
pair_passes rows mode name Error fact item = false
pair_passes rows mode name Unknown fact item = is_fit maybe rows mode name fact item && not (same_truth (fact_truth rows mode name) True)

abbrev pub fact_passes : Rows → Mode → Values → Why-F Why → Bool
fact_passes rows mode name (Why-F.Logic truth of) = false
fact_passes rows mode name (Why-F.Pair truth fact item) = pair_passes rows mode name truth fact item
fact_passes rows mode name (Why-F.Plain truth) = same_truth truth False && same_truth (fact_truth rows mode name) False

abbrev pub check_passes : Rows → CheckKey → Why-F Why → Bool
check_passes rows key (Why-F.Logic truth of) = false
check_passes rows key (Why-F.Pair truth fact item) = false
check_passes rows key (Why-F.Plain truth) = same_truth truth (check_truth rows key)

-- ---- whole tests

abbrev pub test_passes_step : Rows → Mode → Test-F (Why → Bool) → Why → Bool
test_passes_step rows mode (Test-F.Logic operator negate of) w = logic_passes of operator negate (out-Why w)
test_passes_step rows mode (Test-F.Fact name) w = fact_passes rows mode name (out-Why w)
test_passes_step rows mode (Test-F.Check key) w = check_passes rows key (out-Why w)

abbrev pub test_passes : Rows → Mode → Test → Why → Bool
test_passes rows mode = fold-Test (Why → Bool) (test_passes_step rows mode)
