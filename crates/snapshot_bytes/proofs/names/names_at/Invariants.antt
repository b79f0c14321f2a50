use Rattle.std.proofs.Common.{take}
use Rattle.snapshot_bytes.specs.States.{AreNamed}
use Rattle.snapshot_bytes.proofs.names.names_at.Given as goal

abbrev pub invariant-loop-place : goal.invariant-loop-place
invariant-loop-place l = AreNamed l.entries (take l.place-index l.places) l.names
