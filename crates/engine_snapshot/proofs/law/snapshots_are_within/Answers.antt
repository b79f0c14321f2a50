use Rattle.engine_snapshot.proofs.WithinLemmas.{snaps_are_within}
use Rattle.engine_snapshot.proofs.law.snapshots_are_within.Goals as goal

pub returns : goal.returns
returns c = snaps_are_within c.states_have_snapshots.ensures.one c.snapshots_are_short.ensures.within
