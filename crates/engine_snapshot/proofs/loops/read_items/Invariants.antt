use Rattle.std.proofs.Common.{◌-◌}
use Rattle.snapshot_bytes.specs.Reading.{many, name_at}
use Rattle.engine_snapshot.specs.Begun.{with_items}
use Rattle.engine_snapshot.proofs.ReadLemmas.{ArePutSoFar}
use Rattle.engine_snapshot.proofs.loops.read_items.Given as goal

abbrev pub invariant-loop : goal.invariant-loop
invariant-loop g l = ArePutSoFar with_items (many name_at l.count l.fn.cursor) (many name_at (l.count - l.counter) l.cursor) l.fn.engine l.engine
