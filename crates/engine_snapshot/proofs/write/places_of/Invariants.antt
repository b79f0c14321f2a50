use Rattle.std.proofs.Common.{◌≡◌, map, take}
use Rattle.snapshot_bytes.specs.States.{entry_place_in}
use Rattle.engine_snapshot.proofs.write.places_of.Given as goal

abbrev pub invariant-loop-put : goal.invariant-loop-put
invariant-loop-put l = l.places.items ≡ map (entry_place_in l.engine.entries) (take l.put-index l.names)
