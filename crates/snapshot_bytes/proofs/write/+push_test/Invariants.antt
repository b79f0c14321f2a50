use Rattle.std.proofs.Common.{◌≡◌, ◌++◌, take}
use Rattle.std.specs.List.{flat_map}
use Rattle.snapshot_bytes.specs.Snapshot.{test_part}
use Rattle.snapshot_bytes.proofs.write.+push_test.Given as goal

abbrev pub invariant-loop-child : goal.invariant-loop-child
invariant-loop-child l = l.out.items ≡ l.initial.out.items ++ flat_map test_part (take l.child-index l.child-items)
