use Rattle.std.proofs.Common.{◌-◌}
use Rattle.snapshot_bytes.specs.Reading.{many, result_at}
use Rattle.engine_snapshot.specs.Read.{with_results}
use Rattle.engine_snapshot.proofs.ReadLemmas.{ArePutSoFar}
use Rattle.engine_snapshot.proofs.loops.read_results.Given as goal

abbrev pub invariant-loop : goal.invariant-loop
invariant-loop g l = ArePutSoFar with_results (many result_at l.count l.fn.cursor) (many result_at (l.count - l.counter) l.cursor) l.fn.engine l.engine
