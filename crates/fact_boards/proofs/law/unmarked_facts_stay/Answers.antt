use Rattle.fact_boards.proofs.Answers.{facts_stay}
use Rattle.fact_boards.proofs.law.unmarked_facts_stay.Goals as goal

pub returns : goal.returns
returns c = facts_stay
