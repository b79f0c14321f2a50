use Rattle.snapshot_bytes.proofs.SmallCases.{small_rows}
use Rattle.snapshot_bytes.proofs.law.small_snapshots.Goals as goal

pub returns-clause-rows : goal.returns-clause-rows
returns-clause-rows c = small_rows
