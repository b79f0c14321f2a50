use Rattle.std.proofs.Common.{◌≡◌, ◌++◌}
use Rattle.std.specs.List.{flat_map}
use Rattle.std.specs.Vec.Iter.{into_iter_items}
use Rattle.engine_snapshot.specs.Runs.{run_of}
use Rattle.engine_snapshot.proofs.runs.push_runs.Given as goal

-- the entries of the remaining runs follow the entries of the runs so far
abbrev pub invariant-loop-run : goal.invariant-loop-run
invariant-loop-run l = l.all ++ flat_map run_of (into_iter_items l.run-iterator) ≡ l.fn.all ++ flat_map run_of l.fn.runs
