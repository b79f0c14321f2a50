use Rattle.std.proofs.Common.{◌≡◌, ◌++◌, take}
use Rattle.std.specs.List.{AllByRecursion, flat_map}
use Rattle.snapshot_bytes.specs.Snapshot.{entry_row}
use Rattle.snapshot_bytes.specs.States.{IsTextEntry, placed_entry}
use Rattle.engine_snapshot.proofs.write.push_entries.Given as goal

abbrev pub invariant-loop-k : goal.invariant-loop-k
invariant-loop-k l = record {
  so_far : l.out.items ≡ l.fn.bytes.items ++ flat_map (λ e. entry_row (placed_entry l.engine.entries e)) (take l.k l.engine.entries);
  texts : AllByRecursion IsTextEntry (take l.k l.engine.entries);
}
