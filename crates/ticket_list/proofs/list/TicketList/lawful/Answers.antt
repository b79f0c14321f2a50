use Rattle.std.proofs.Common.{subst}
use Rattle.ticket_list.specs.Rising.{IsRisingBy}
use Rattle.ticket_list.proofs.ChangeLemmas.{elements_rise}
use Rattle.ticket_list.proofs.list.TicketList.lawful.Goals as goal

pub returns : goal.returns
returns g c =
    let ticket_of = g.T.Ticketed.ticket_of in
    subst (λ l. IsRisingBy ticket_of l.items) c.self.view_is (elements_rise ticket_of c.self.inside.slots.items c.self.invariant.rising)
