-- The verdict of a statement, and the truths of its facts and checks by the rows.
use Rattle.std.specs.Prelude.{List, Bool, if◌then◌else◌, find}
use Rattle.std.specs.Option.{option_map_or}
use Rattle.std.specs.List.{list_any}
use Rattle.cpe_name.specs.Eleven.{Values}
use Rattle.cpe_relation.specs.NameRelation.{covers}
use Rattle.cpe_relation.specs.Maybe.{maybe}
use Rattle.cpe_rows.specs.Rows.{Rows, has_key}
use Rattle.cpe_rows.specs.Chains.{ends}
use Rattle.cpe_rows.specs.Evaluation.{test_truth}
use Rattle.cpe_rows.specs.declared.entry.Entry.{Entry}
use Rattle.cpe_rows.specs.declared.truth.Truth.{Truth}
use Rattle.cpe_rows.specs.declared.truth.Truth.TheVariants.{True, False, Unknown}
use Rattle.cpe_rows.specs.declared.test.CheckKey.{CheckKey}
use Rattle.cpe_rows.specs.declared.statement.Mode.{Mode}
use Rattle.cpe_rows.specs.declared.statement.Mode.TheVariants.{Plain, Follow}
use Rattle.cpe_rows.specs.declared.statement.Statement.{Statement}

-- TRUE if an item is covered; else UNKNOWN if an item may be covered; else FALSE
abbrev pub truth : Bool → Bool → Truth
truth covered maybe = if covered then True else if maybe then Unknown else False

-- The relation is true of some end of the fact's name and some end of the item.
abbrev pub is_followed : (Values → Values → Bool) → List Entry → Values → Values → Bool
is_followed relates entries fact item = list_any (λ f. list_any (relates f) (ends entries item)) (ends entries fact)

-- The relation is true of the fact's name and some item: of the names as they are in mode `plain`, and of ends in mode
-- `follow`.
abbrev pub finds_item : (Values → Values → Bool) → Rows → Mode → Values → Bool
finds_item relates rows Plain fact = list_any (relates fact) rows.items
finds_item relates rows Follow fact = list_any (is_followed relates rows.entries fact) rows.items

-- the truth of a fact: whether its name covers an item, or may cover an item
abbrev pub fact_truth : Rows → Mode → Values → Truth
fact_truth rows mode fact = truth (finds_item covers rows mode fact) (finds_item maybe rows mode fact)

-- the result that is kept for the check, or UNKNOWN if none is kept
abbrev pub check_truth : Rows → CheckKey → Truth
check_truth rows key = option_map_or (λ c. c.1) (find (has_key key) rows.checks) Unknown

abbrev pub verdict : Rows → Statement → Truth
verdict rows s = test_truth (fact_truth rows s.mode) (check_truth rows) s.test
