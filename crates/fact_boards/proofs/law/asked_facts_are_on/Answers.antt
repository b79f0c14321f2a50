use Rattle.fact_boards.proofs.AskedOn.{facts_on}
use Rattle.fact_boards.proofs.law.asked_facts_are_on.Goals as goal

pub returns : goal.returns
returns c = facts_on
