use Rattle.row_weight.proofs.Gains.{weighs_after, lost_was_there}
use Rattle.row_weight.proofs.law.edits_weigh.Goals as goal

pub returns-clause-weight : goal.returns-clause-weight
returns-clause-weight c = weighs_after

pub returns-clause-loss : goal.returns-clause-loss
returns-clause-loss c = lost_was_there
