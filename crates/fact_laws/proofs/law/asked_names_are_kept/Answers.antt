use Rattle.fact_laws.proofs.Kept.{asked_kept, there_kept}
use Rattle.fact_laws.proofs.law.asked_names_are_kept.Goals as goal

pub returns-clause-asked : goal.returns-clause-asked
returns-clause-asked c = asked_kept

pub returns-clause-there : goal.returns-clause-there
returns-clause-there c = there_kept
