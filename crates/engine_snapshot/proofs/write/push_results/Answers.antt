use Rattle.cpe_rows.specs.declared.test.CheckKey.{CheckKey}
use Rattle.cpe_rows.specs.declared.truth.Truth.{Truth}
use Rattle.snapshot_bytes.specs.Snapshot.{result_row}
use Rattle.snapshot_bytes.specs.States.{IsTextKey, result_of}
use Rattle.engine_snapshot.proofs.WriteLemmas.{next_holds, next_row}
use Rattle.engine_snapshot.proofs.write.push_results.Goals as goal

pub loop-k-preserved : goal.loop-k-preserved
loop-k-preserved c =
    let at = c.loop-k in
    let xs = c.args.engine.now.checks in
    record {
      so_far = next_row (λ (x : CheckKey × Truth). result_row (result_of x)) xs at.k c.args.bytes.items at.out.items c.in_ok-out.out.items at.invariant.so_far c.in_ok-out.ensures.written;
      texts = next_holds (λ (x : CheckKey × Truth). IsTextKey x.0) xs at.k at.invariant.texts c.in_ok-out.ensures.texts;
    }
