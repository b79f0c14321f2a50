use Rattle.std.proofs.Common.{◌≡◌, length}
use Rattle.ticket_list.specs.Rising.{IsRisingBy}
use Rattle.ticket_list.specs.Slots.{elements, marks_from, slot_ticket}
use Rattle.ticket_list.proofs.list.trim.Given as goal

abbrev pub invariant-loop-slots : goal.invariant-loop-slots
invariant-loop-slots g l =
    IsRisingBy (slot_ticket g.T.Ticketed.ticket_of) l.slots.items
    × (l.marks.items ≡ marks_from 0 l.slots.items)
    × (elements l.slots.items ≡ elements l.initial.slots.items)

abbrev pub decreases-loop-slots : goal.decreases-loop-slots
decreases-loop-slots g l = length l.slots.items
