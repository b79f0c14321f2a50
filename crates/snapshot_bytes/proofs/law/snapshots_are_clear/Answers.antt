use Rattle.snapshot_bytes.proofs.RowsReader.{clear, read_again}
use Rattle.snapshot_bytes.proofs.law.snapshots_are_clear.Goals as goal

pub returns-clause-clear : goal.returns-clause-clear
returns-clause-clear c = clear

pub returns-clause-read : goal.returns-clause-read
returns-clause-read c = read_again
