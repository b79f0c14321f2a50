use Rattle.cpe_rows.specs.declared.test.Operator.TheVariants.{And, Or}
use Rattle.cpe_rows.proofs.Tables.{some_false, some_true, all_neutral}
use Rattle.cpe_rows.proofs.law.tables_part_some_from_all.Goals as goal

pub returns-clause-some_false : goal.returns-clause-some_false
returns-clause-some_false c = some_false

pub returns-clause-some_true : goal.returns-clause-some_true
returns-clause-some_true c = some_true

pub returns-clause-all_true : goal.returns-clause-all_true
returns-clause-all_true c = all_neutral And

pub returns-clause-all_false : goal.returns-clause-all_false
returns-clause-all_false c = all_neutral Or
