use Rattle.cpe_rows.specs.declared.test.Operator.TheVariants.{And, Or}
use Rattle.cpe_rows.proofs.Tables.{once, twice, inward, not_and, not_or}
use Rattle.cpe_rows.proofs.law.negation_moves_inward.Goals as goal

pub returns-clause-once : goal.returns-clause-once
returns-clause-once c o t fact check = once fact check o t

pub returns-clause-twice : goal.returns-clause-twice
returns-clause-twice c o p t fact check = twice fact check o p t

pub returns-clause-of_and : goal.returns-clause-of_and
returns-clause-of_and c o of fact check = inward fact check And Or o of not_and

pub returns-clause-of_or : goal.returns-clause-of_or
returns-clause-of_or c o of fact check = inward fact check Or And o of not_or
