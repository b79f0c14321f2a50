use Rattle.std.proofs.Common.{ℕ, ◌-◌, List, length, take, ap, ◌∙◌, sym, subst}
use Rattle.ticket_list.specs.Rising.{IsRisingBy}
use Rattle.ticket_list.specs.Slots.{elements, marks_from, slot_ticket}
use Rattle.ticket_list.proofs.RisingLemmas.{rising_take}
use Rattle.ticket_list.proofs.SlotLemmas.{dropped_elements, dropped_marks}
use Rattle.ticket_list.proofs.list.drop_last.Goals as goal

pub returns-clause-rising : goal.returns-clause-rising
returns-clause-rising g c =
    let ticket_of = g.T.Ticketed.ticket_of in
    subst (λ u. IsRisingBy (slot_ticket ticket_of) u) (sym c.shorten.ensures) (rising_take (slot_ticket ticket_of) _ c.args.slots.now.items c.requires.rising)

pub returns-clause-marked : goal.returns-clause-marked
returns-clause-marked g c =
    let slots = c.args.slots.now.items in
    c.shorten-2.ensures
    ∙ ap (λ (u : List ℕ). take (length u - 1) u) c.requires.marked
    ∙ dropped_marks slots c.requires.mark
    ∙ ap (λ u. marks_from 0 u) (sym c.shorten.ensures)

pub returns-clause-items : goal.returns-clause-items
returns-clause-items g c = ap (λ u. elements u) c.shorten.ensures ∙ dropped_elements c.args.slots.now.items c.requires.mark
