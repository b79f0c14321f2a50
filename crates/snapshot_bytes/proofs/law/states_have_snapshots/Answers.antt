use Rattle.snapshot_bytes.proofs.StateLemmas.{states_are_clear, states_have_one}
use Rattle.snapshot_bytes.proofs.StoredTextLemmas.{states_have_snapshots}
use Rattle.snapshot_bytes.proofs.law.states_have_snapshots.Goals as goal

pub returns-clause-clear : goal.returns-clause-clear
returns-clause-clear c = states_are_clear

pub returns-clause-some : goal.returns-clause-some
returns-clause-some c = states_have_snapshots

pub returns-clause-one : goal.returns-clause-one
returns-clause-one c = states_have_one
