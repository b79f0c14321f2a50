use Rattle.std.proofs.Common.{◌+◌, ◌-◌, length}
use Rattle.names_in_order.specs.Room.{KeepsPlaces}
use Rattle.names_in_order.proofs.free_place.reach_number.Given as goal

abbrev pub invariant-loop-id : goal.invariant-loop-id
invariant-loop-id l = KeepsPlaces l.fn.places.items l.places.items

abbrev pub decreases-loop-id : goal.decreases-loop-id
decreases-loop-id l = l.id.0 + 1 - length l.places.items
