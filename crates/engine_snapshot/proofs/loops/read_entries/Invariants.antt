use Rattle.std.proofs.Common.{◌-◌}
use Rattle.snapshot_bytes.specs.Reading.{entry_at, many}
use Rattle.engine_snapshot.proofs.ReadLemmas.{AreEntriesSoFar}
use Rattle.engine_snapshot.proofs.loops.read_entries.Given as goal

abbrev pub invariant-loop : goal.invariant-loop
invariant-loop g l = AreEntriesSoFar (many entry_at l.count l.fn.cursor) (many entry_at (l.count - l.counter) l.cursor) l.fn.engine l.engine l.deprecations
