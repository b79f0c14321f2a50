use Rattle.std.proofs.Common.{map, take}
use Rattle.snapshot_bytes.specs.States.{AreNamed}
use Rattle.engine_snapshot.specs.Meant.{undeprecated}
use Rattle.engine_snapshot.proofs.meant.names_at.Given as goal

abbrev pub invariant-loop-place : goal.invariant-loop-place
invariant-loop-place l = AreNamed (map undeprecated l.engine.entries) (take l.place-index l.places) l.names
