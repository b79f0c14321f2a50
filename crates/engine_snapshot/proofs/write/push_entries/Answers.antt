use Rattle.cpe_rows.specs.declared.entry.Entry.{Entry}
use Rattle.snapshot_bytes.specs.Snapshot.{entry_row}
use Rattle.snapshot_bytes.specs.States.{IsTextEntry, placed_entry}
use Rattle.engine_snapshot.proofs.WriteLemmas.{next_holds, next_row}
use Rattle.engine_snapshot.proofs.write.push_entries.Goals as goal

pub loop-k-preserved : goal.loop-k-preserved
loop-k-preserved c =
    let at = c.loop-k in
    let xs = c.args.engine.now.entries in
    record {
      so_far = next_row (λ (e : Entry). entry_row (placed_entry c.args.engine.now.entries e)) xs at.k c.args.bytes.items at.out.items c.in_ok-out.out.items at.invariant.so_far c.in_ok-out.ensures.written;
      texts = next_holds IsTextEntry xs at.k at.invariant.texts c.in_ok-out.ensures.texts;
    }
