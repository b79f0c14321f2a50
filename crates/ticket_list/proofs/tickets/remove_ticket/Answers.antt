use Rattle.std.proofs.Common.{ℕ, List, ap, ◌∙◌, sym, arith}
use Rattle.std.specs.Prelude.{nat_lt}
use Rattle.ticket_list.specs.Tickets.{is_at}
use Rattle.ticket_list.specs.Rising.{prefix}
use Rattle.ticket_list.proofs.TicketLemmas.{taken_at, absent_at, is_at_within}
use Rattle.ticket_list.proofs.tickets.remove_ticket.Goals as goal

pub remove-requires : goal.remove-requires
remove-requires c =
    let there = ap (λ (u : List ℕ). is_at u c.count_below-place.result c.args.ticket) (sym c.deref-2.ensures.value) ∙ (sym c.is_at.ensures ∙ c.if-is_at.true) in
    omega (arith, is_at_within c.args.list.now.items c.count_below-place.result c.args.ticket there)

pub returns-then-is_at-clause-items : goal.returns-then-is_at-clause-items
returns-then-is_at-clause-items c =
    let at = c.count_below-place.ensures.count ∙ ap (prefix (λ x. nat_lt x c.args.ticket)) c.deref.ensures.value in
    let there = ap (λ (u : List ℕ). is_at u c.count_below-place.result c.args.ticket) (sym c.deref-2.ensures.value) ∙ (sym c.is_at.ensures ∙ c.if-is_at.true) in
    c.remove.ensures.by_index.2 ∙ taken_at c.args.ticket c.count_below-place.result c.args.list.now.items c.requires.rising at there

pub returns-else-is_at-clause-items : goal.returns-else-is_at-clause-items
returns-else-is_at-clause-items c =
    let at = c.count_below-place.ensures.count ∙ ap (prefix (λ x. nat_lt x c.args.ticket)) c.deref.ensures.value in
    let there = ap (λ (u : List ℕ). is_at u c.count_below-place.result c.args.ticket) (sym c.deref-2.ensures.value) ∙ (sym c.is_at.ensures ∙ c.if-is_at.false) in
    absent_at c.args.ticket c.count_below-place.result c.args.list.now.items c.requires.rising at there
