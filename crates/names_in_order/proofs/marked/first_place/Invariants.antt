use Rattle.std.proofs.Common.{take}
use Rattle.names_in_order.specs.Marked.{IsFirstPlace}
use Rattle.names_in_order.proofs.marked.first_place.Given as goal

abbrev pub invariant-loop-id : goal.invariant-loop-id
invariant-loop-id l = IsFirstPlace l.slots (take l.id-index l.ids) l.first
