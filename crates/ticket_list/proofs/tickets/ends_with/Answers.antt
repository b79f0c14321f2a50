use Rattle.std.proofs.Common.{sym}
use Rattle.ticket_list.proofs.TicketLemmas.{ends_is}
use Rattle.ticket_list.proofs.tickets.ends_with.Goals as goal

pub returns-in-len1-up : goal.returns-in-len1-up
returns-in-len1-up c = sym (ends_is c.args.ticket c.args.list.now c.in-len1-up.len_at_least)
