use Rattle.std.proofs.Common.{◌≡◌, ◌++◌, length, take}
use Rattle.std.specs.List.{flat_map}
use Rattle.snapshot_bytes.specs.Parts.{number}
use Rattle.snapshot_bytes.proofs.write.push_places.Given as goal

abbrev pub invariant-loop-place : goal.invariant-loop-place
invariant-loop-place l = l.out.items ≡ l.fn.bytes.items ++ (number (length l.places) ++ flat_map number (take l.place-index l.places))
