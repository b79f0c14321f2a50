use Rattle.std.proofs.Common.{◌∙◌}
use Rattle.ticket_list.specs.Slots.{elements}
use Rattle.ticket_list.proofs.FoundLemmas.{absent_others, element_here, others_find}
use Rattle.ticket_list.proofs.list.find_element.Goals as goal

pub returns-in-Some : goal.returns-in-Some
returns-in-Some g c =
    c.element_at.ensures
    ∙ element_here g.T.Ticketed.ticket_of c.args.ticket c.args.slots.now c.in-Some.slot c.in-Some.ensures.slot c.in-Some.ensures.present

pub returns-in-None : goal.returns-in-None
returns-in-None g c =
    let ticket_of = g.T.Ticketed.ticket_of in
    let slots = c.args.slots.now in
    others_find ticket_of c.args.ticket (elements slots) (absent_others ticket_of c.args.ticket slots c.requires c.in-None.ensures.absent)
