use Rattle.line_session.proofs.SessionLemmas.{costs-summed}
use Rattle.line_session.proofs.folding.costs_are_summed.Goals as goal

pub returns : goal.returns
returns g c = costs-summed
