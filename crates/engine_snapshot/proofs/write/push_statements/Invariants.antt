use Rattle.std.proofs.Common.{◌≡◌, ◌++◌, take}
use Rattle.std.specs.List.{AllByRecursion, flat_map}
use Rattle.snapshot_bytes.specs.Snapshot.{statement_row}
use Rattle.snapshot_bytes.specs.States.{IsTextStatement}
use Rattle.engine_snapshot.proofs.write.push_statements.Given as goal

abbrev pub invariant-loop-k : goal.invariant-loop-k
invariant-loop-k l = record {
  so_far : l.out.items ≡ l.fn.bytes.items ++ flat_map statement_row (take l.k l.engine.statements);
  texts : AllByRecursion IsTextStatement (take l.k l.engine.statements);
}
