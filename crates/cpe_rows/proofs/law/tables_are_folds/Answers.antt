use Rattle.cpe_rows.specs.declared.test.Operator.TheVariants.{And, Or}
use Rattle.cpe_rows.proofs.Joined.{joined-snoc}
use Rattle.cpe_rows.proofs.law.tables_are_folds.Goals as goal

pub returns-clause-and_all : goal.returns-clause-and_all
returns-clause-and_all c = joined-snoc And

pub returns-clause-or_all : goal.returns-clause-or_all
returns-clause-or_all c = joined-snoc Or
