use Rattle.std.proofs.Common.{arith}
use Rattle.snapshot_bytes.proofs.RowsReader.{reads}
use Rattle.snapshot_bytes.proofs.load.read_rows.Goals as goal

pub returns : goal.returns
returns c = reads c.args.bytes.now c.all.result (λ i. omega (arith, c.type_inv.bytes i)) c.all.ensures
