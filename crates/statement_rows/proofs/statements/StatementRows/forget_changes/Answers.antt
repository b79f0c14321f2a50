use Rattle.std.proofs.Common.{List, map, sym, ap, subst, ◌∙◌}
use Rattle.check_results.specs.Kept.{IsCounted}
use Rattle.statement_rows.specs.declared.row.JudgedRow.{JudgedRow}
use Rattle.statement_rows.specs.State.{State, forget_row_change, statements_of, view_of}
use Rattle.statement_rows.proofs.RemovalLemmas.{AreRows-known, judged-known, statements-known}
use Rattle.statement_rows.proofs.statements.StatementRows.forget_changes.Goals as goal

pub invariant_of-self : goal.invariant_of-self
invariant_of-self c =
    let inside = c.self.inside in
    let rows = inside.rows.items in
    let are = c.forget_changes.ensures.rows in (
      AreRows-known rows c.forget_changes.new.rows.items inside.changed c.forget_changes.new.changed inside.by_id.entries inside.askers.entries inside.next c.self.invariant.0
          are c.forget_changes.ensures.changed c.forget_changes.ensures.capacity,
      subst (IsCounted inside.facts) (sym (ap (λ (rs : List JudgedRow). statements_of (map view_of rs)) are ∙ statements-known rows)) c.self.invariant.1,
    )

pub returns-clause-rows : goal.returns-clause-rows
returns-clause-rows c =
    ap (map view_of) c.forget_changes.ensures.rows ∙ (judged-known c.self.inside.rows.items ∙ ap (λ (b : State). map forget_row_change b.rows) c.self.view_is)
