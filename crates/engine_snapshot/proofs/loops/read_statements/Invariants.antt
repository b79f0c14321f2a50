use Rattle.std.proofs.Common.{◌-◌}
use Rattle.snapshot_bytes.specs.Reading.{many, statement_at}
use Rattle.engine_snapshot.specs.Begun.{with_statements}
use Rattle.engine_snapshot.proofs.ReadLemmas.{ArePutSoFar}
use Rattle.engine_snapshot.proofs.loops.read_statements.Given as goal

abbrev pub invariant-loop : goal.invariant-loop
invariant-loop g l = ArePutSoFar with_statements (many statement_at l.count l.fn.cursor) (many statement_at (l.count - l.counter) l.cursor) l.fn.engine l.engine
