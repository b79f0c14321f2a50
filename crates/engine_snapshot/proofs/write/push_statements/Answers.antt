use Rattle.snapshot_bytes.specs.Snapshot.{statement_row}
use Rattle.snapshot_bytes.specs.States.{IsTextStatement}
use Rattle.engine_snapshot.proofs.WriteLemmas.{next_holds, next_row}
use Rattle.engine_snapshot.proofs.write.push_statements.Goals as goal

pub loop-k-preserved : goal.loop-k-preserved
loop-k-preserved c =
    let at = c.loop-k in
    let xs = c.args.engine.now.statements in
    record {
      so_far = next_row statement_row xs at.k c.args.bytes.items at.out.items c.in_ok-out.out.items at.invariant.so_far c.in_ok-out.ensures.written;
      texts = next_holds IsTextStatement xs at.k at.invariant.texts c.in_ok-out.ensures.texts;
    }
