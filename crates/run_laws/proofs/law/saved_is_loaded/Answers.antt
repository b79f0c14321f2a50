use Rattle.run_laws.proofs.Saved.{saved_is_loaded}
use Rattle.run_laws.proofs.law.saved_is_loaded.Goals as goal

pub returns : goal.returns
returns c = saved_is_loaded c.states_have_snapshots.ensures.clear c.states_have_snapshots.ensures.some
