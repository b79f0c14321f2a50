use Rattle.fact_laws.proofs.Facts.{fact_is, same_one}
use Rattle.fact_laws.proofs.law.facts_are_asked.Goals as goal

pub returns-clause-truth : goal.returns-clause-truth
returns-clause-truth c = fact_is

pub returns-clause-order : goal.returns-clause-order
returns-clause-order c = same_one
