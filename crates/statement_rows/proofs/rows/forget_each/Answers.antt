use Rattle.std.proofs.Common.{refl, sym, ◌∙◌}
use Rattle.statement_rows.specs.Rows.{forget_change}
use Rattle.statement_rows.proofs.RowLemmas.{at_more, no_tickets}
use Rattle.statement_rows.proofs.rows.forget_each.Goals as goal

pub loop-ticket-init : goal.loop-ticket-init
loop-ticket-init c = (sym (no_tickets forget_change (λ r. refl) c.args.rows.now.items), refl)

pub loop-ticket-preserved : goal.loop-ticket-preserved
loop-ticket-preserved c = (
  c.forget_one.ensures.rows
      ∙ at_more forget_change (λ r. refl) (λ r. refl) c.args.list.now c.loop-ticket.ticket-index c.args.rows.now.items c.loop-ticket.rows.items c.loop-ticket-test.true c.loop-ticket.invariant.0,
  c.forget_one.ensures.ready ∙ c.loop-ticket.invariant.1,
)
