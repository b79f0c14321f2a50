use Rattle.std.proofs.Common.{take}
use Rattle.std.specs.List.{AllByRecursion, flat_map}
use Rattle.snapshot_bytes.specs.States.{IsTextKey, keys_of}
use Rattle.engine_snapshot.proofs.texts.+are_test_texts.Given as goal

abbrev pub invariant-loop-child : goal.invariant-loop-child
invariant-loop-child l = AllByRecursion IsTextKey (flat_map keys_of (take l.child-index l.child-items))
