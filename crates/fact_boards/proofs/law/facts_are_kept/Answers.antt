use Rattle.fact_boards.proofs.Answers.{fact_kept}
use Rattle.fact_boards.proofs.law.facts_are_kept.Goals as goal

pub returns : goal.returns
returns c = fact_kept
