use Rattle.std.proofs.Common.{◌≡◌, ◌++◌, take}
use Rattle.std.specs.List.{AllByRecursion, flat_map}
use Rattle.cpe_rows.specs.declared.test.CheckKey.{CheckKey}
use Rattle.cpe_rows.specs.declared.truth.Truth.{Truth}
use Rattle.snapshot_bytes.specs.Snapshot.{result_row}
use Rattle.snapshot_bytes.specs.States.{IsTextKey, result_of}
use Rattle.engine_snapshot.proofs.write.push_results.Given as goal

abbrev pub invariant-loop-k : goal.invariant-loop-k
invariant-loop-k l = record {
  so_far : l.out.items ≡ l.fn.bytes.items ++ flat_map (λ c. result_row (result_of c)) (take l.k l.engine.checks);
  texts : AllByRecursion (λ (c : CheckKey × Truth). IsTextKey c.0) (take l.k l.engine.checks);
}
