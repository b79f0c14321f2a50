use Rattle.std.proofs.Common.{◌≡◌, take}
use Rattle.std.specs.List.{flat_map}
use Rattle.advise_ranges.specs.Found.{affecting_there}
use Rattle.advise_ranges.proofs.advised.find_affecting.Given as goal

abbrev pub invariant-loop-place : goal.invariant-loop-place
invariant-loop-place l = l.ids ≡ flat_map (affecting_there l.name l.by_id.entries) (take l.place-index l.places)
