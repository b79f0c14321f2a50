use Rattle.snapshot_bytes.proofs.ShortLemmas.{snapshots_are_short, snapshots_are_within}
use Rattle.snapshot_bytes.proofs.law.snapshots_are_short.Goals as goal

pub returns-clause-short : goal.returns-clause-short
returns-clause-short c = snapshots_are_short

pub returns-clause-within : goal.returns-clause-within
returns-clause-within c = snapshots_are_within
