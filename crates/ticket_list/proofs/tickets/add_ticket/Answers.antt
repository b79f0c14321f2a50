use Rattle.std.proofs.Common.{ℕ, List, ap, ◌∙◌}
use Rattle.std.specs.Prelude.{nat_lt}
use Rattle.ticket_list.specs.Rising.{prefix}
use Rattle.ticket_list.proofs.RisingLemmas.{put_at}
use Rattle.ticket_list.proofs.tickets.add_ticket.Goals as goal

pub returns-clause-items : goal.returns-clause-items
returns-clause-items c =
    let t = c.args.ticket in
    let xs : List ℕ = c.args.list.now.items in
    let at = c.count_below-place.ensures.count ∙ ap (prefix (λ x. nat_lt x t)) c.deref.ensures.value in
    c.in-Ok.ensures.items ∙ put_at t c.count_below-place.result xs at
