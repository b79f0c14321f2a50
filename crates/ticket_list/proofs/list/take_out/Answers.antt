use Rattle.std.proofs.Common.{◌∙◌, ap, sym, subst}
use Rattle.std.specs.Prelude.{List, ℕ}
use Rattle.ticket_list.specs.Rising.{IsRising, IsRisingBy, put_in}
use Rattle.ticket_list.specs.Slots.{elements, ends_with_element, marks_from, slot_ticket}
use Rattle.ticket_list.proofs.SlotLemmas.{closed_elements, closed_ends, closed_marks, marks_rise}
use Rattle.ticket_list.proofs.FoundLemmas.{element_here}
use Rattle.ticket_list.proofs.ChangeLemmas.{marked_here, marks_put, rising_closed, rising_marked}
use Rattle.ticket_list.proofs.list.take_out.Goals as goal

pub enter-requires-clause-rising : goal.enter-requires-clause-rising
enter-requires-clause-rising g c = subst IsRising (sym c.requires.kept.marked) (marks_rise 0 c.args.slots.now.items)

pub trim-requires-clause-rising : goal.trim-requires-clause-rising
trim-requires-clause-rising g c =
    let ticket_of = g.T.Ticketed.ticket_of in
    subst (λ u. IsRisingBy (slot_ticket ticket_of) u) (sym c.mark-element.ensures.slots)
    (rising_marked ticket_of c.args.ticket c.args.slot c.args.slots.now.items c.requires.present c.requires.kept.rising)

pub trim-requires-clause-marked : goal.trim-requires-clause-marked
trim-requires-clause-marked g c =
    let ticket_of = g.T.Ticketed.ticket_of in
    c.enter.ensures
    ∙ ap (λ (u : List ℕ). put_in c.args.slot u) c.requires.kept.marked
    ∙ marks_put ticket_of c.args.ticket c.args.slot c.args.slots.now.items c.requires.present
    ∙ ap (λ u. marks_from 0 u) (sym c.mark-element.ensures.slots)

pub returns-then-len-min-clause-element : goal.returns-then-len-min-clause-element
returns-then-len-min-clause-element g c =
    c.mark-element.ensures.element ∙ element_here g.T.Ticketed.ticket_of c.args.ticket c.args.slots.now.items c.args.slot c.requires.slot c.requires.present

pub returns-then-len-min-clause-items : goal.returns-then-len-min-clause-items
returns-then-len-min-clause-items g c =
    c.trim.ensures.items
    ∙ ap (λ u. elements u) c.mark-element.ensures.slots
    ∙ marked_here g.T.Ticketed.ticket_of c.args.ticket c.args.slots.now.items c.args.slot c.requires.kept.rising c.requires.slot c.requires.present

pub returns-else-len-min-clause-kept : goal.returns-else-len-min-clause-kept
returns-else-len-min-clause-kept g c =
    let ticket_of = g.T.Ticketed.ticket_of in
    let left = c.mark-element.new.slots.items in
    let rising = subst (λ u. IsRisingBy (slot_ticket ticket_of) u) (sym c.mark-element.ensures.slots)
    (rising_marked ticket_of c.args.ticket c.args.slot c.args.slots.now.items c.requires.present c.requires.kept.rising) in
    record {
      rising = subst (λ u. IsRisingBy (slot_ticket ticket_of) u) (sym c.close_up.ensures) (rising_closed ticket_of left rising);
      marked = c.clear.ensures.items ∙ closed_marks 0 left ∙ ap (λ u. marks_from 0 u) (sym c.close_up.ensures);
      last = ap (λ u. ends_with_element u) c.close_up.ensures ∙ closed_ends left;
    }

pub returns-else-len-min-clause-element : goal.returns-else-len-min-clause-element
returns-else-len-min-clause-element g c =
    c.mark-element.ensures.element ∙ element_here g.T.Ticketed.ticket_of c.args.ticket c.args.slots.now.items c.args.slot c.requires.slot c.requires.present

pub returns-else-len-min-clause-items : goal.returns-else-len-min-clause-items
returns-else-len-min-clause-items g c =
    ap (λ u. elements u) c.close_up.ensures
    ∙ closed_elements c.mark-element.new.slots.items
    ∙ ap (λ u. elements u) c.mark-element.ensures.slots
    ∙ marked_here g.T.Ticketed.ticket_of c.args.ticket c.args.slots.now.items c.args.slot c.requires.kept.rising c.requires.slot c.requires.present
