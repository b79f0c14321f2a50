use Rattle.std.proofs.Common.{◌≡◌, ◌-◌}
use Rattle.snapshot_bytes.specs.Reading.{many}
use Rattle.snapshot_bytes.proofs.Loop.{with_prefix}
use Rattle.snapshot_bytes.proofs.parts.many.Given as goal

abbrev pub invariant-loop : goal.invariant-loop
invariant-loop g l = with_prefix l.parts (many g.P.Part.read (l.count - l.counter) l.cursor) ≡ many g.P.Part.read l.count l.fn.cursor
