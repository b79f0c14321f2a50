use Rattle.std.proofs.Common.{◌≡◌, ◌∙◌, false, ap, sym}
use Rattle.ticket_list.specs.Slots.{elements, slot_for, occurs_at}
use Rattle.ticket_list.proofs.FoundLemmas.{absent_others, others_find, others_without}
use Rattle.ticket_list.proofs.list.take_element.Given.{Over}
use Rattle.ticket_list.proofs.list.take_element.Goals as goal
use Rattle.ticket_list.proofs.list.take_element.Goals.{In-None}

absent : (g : Over) (c : In-None g) → occurs_at g.T.Ticketed.ticket_of c.args.slots.now.items (slot_for g.T.Ticketed.ticket_of c.args.ticket c.args.slots.now.items) c.args.ticket ≡ false
absent g c = ap (λ u. occurs_at g.T.Ticketed.ticket_of u (slot_for g.T.Ticketed.ticket_of c.args.ticket u) c.args.ticket) (sym c.deref.ensures.value) ∙ c.in-None.ensures.absent

pub returns-in-None-clause-element : goal.returns-in-None-clause-element
returns-in-None-clause-element g c =
    let none = absent_others g.T.Ticketed.ticket_of c.args.ticket c.args.slots.now.items c.requires.rising (absent g (goal.at.returns-in-None-clause-element g c).In-None) in
    others_find g.T.Ticketed.ticket_of c.args.ticket (elements c.args.slots.now.items) none

pub returns-in-None-clause-items : goal.returns-in-None-clause-items
returns-in-None-clause-items g c =
    let none = absent_others g.T.Ticketed.ticket_of c.args.ticket c.args.slots.now.items c.requires.rising (absent g (goal.at.returns-in-None-clause-items g c).In-None) in
    others_without g.T.Ticketed.ticket_of c.args.ticket (elements c.args.slots.now.items) none
