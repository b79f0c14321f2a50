use Rattle.std.proofs.Common.{◌∙◌}
use Rattle.check_results.specs.ticket_list.TicketList.{has_ticket}
use Rattle.statement_rows.specs.Rows.{ticket_of}
use Rattle.statement_rows.proofs.PlaceLemmas.{position_is}
use Rattle.statement_rows.proofs.rows.place_of.Goals as goal

pub returns : goal.returns
returns c = c.place_of.ensures ∙ position_is (has_ticket ticket_of c.args.ticket) c.args.rows.now.items
