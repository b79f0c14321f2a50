use Rattle.line_session.proofs.SessionLemmas.{state-folded}
use Rattle.line_session.proofs.folding.state_is_folded.Goals as goal

pub returns : goal.returns
returns g c = state-folded
