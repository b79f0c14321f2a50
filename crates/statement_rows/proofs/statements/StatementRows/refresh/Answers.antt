use Rattle.std.proofs.Common.{List, map, sym, ap, subst, ◌∙◌}
use Rattle.check_results.specs.Kept.{IsCounted}
use Rattle.statement_rows.specs.declared.row.Cause.TheVariants.{Fact}
use Rattle.statement_rows.specs.declared.row.JudgedRow.{JudgedRow}
use Rattle.statement_rows.specs.State.{State, at_tickets, judge, statements_of, view_of}
use Rattle.statement_rows.proofs.StateLemmas.{AreRows-judged, judged-at, statements-judged}
use Rattle.statement_rows.proofs.statements.StatementRows.refresh.Goals as goal

pub invariant_of-self : goal.invariant_of-self
invariant_of-self g c =
    let truth = g.T.FactTruth.fact_truth c.args.facts.now in
    let inside = c.self.inside in
    let ts = c.args.tickets.now in
    let rows = inside.rows.items in
    let are = c.refresh_rows.ensures.rows in (
      AreRows-judged Fact truth inside.results.list ts rows c.refresh_rows.new.rows.items inside.changed c.refresh_rows.new.changed inside.by_id.entries inside.askers.entries inside.next c.self.invariant.0
          are c.refresh_rows.ensures.changed c.refresh_rows.ensures.capacity,
      subst (IsCounted inside.facts) (sym (ap (λ (rs : List JudgedRow). statements_of (map view_of rs)) are ∙ statements-judged Fact truth inside.results.list ts rows)) c.self.invariant.1,
    )

pub returns-clause-rows : goal.returns-clause-rows
returns-clause-rows g c =
    let truth = g.T.FactTruth.fact_truth c.args.facts.now in
    let inside = c.self.inside in
    let ts = c.args.tickets.now in
    ap (map view_of) c.refresh_rows.ensures.rows
    ∙ (judged-at truth inside.results.list ts inside.rows.items c.self.invariant.0.alone
    ∙ ap (λ (a : State). at_tickets ts (judge truth a.checks) a.rows) c.self.view_is)
