use Rattle.std.proofs.Common.{length, ap, sym, ◌∙◌}
use Rattle.statement_rows.specs.Rows.{is_changed}
use Rattle.statement_rows.specs.State.{State, changed_places, has_changed, view_of}
use Rattle.statement_rows.proofs.ReadLemmas.{places-length, places-map}
use Rattle.statement_rows.proofs.statements.StatementRows.changed_len.Goals as goal

pub returns : goal.returns
returns c =
    let rows = c.self.inside.rows.items in
    c.count.ensures
    ∙ ap length (c.deref.ensures.value ∙ c.self.invariant.0.noted.changed)
    ∙ (places-length is_changed 0 rows ∙ (ap length (sym (places-map view_of has_changed 0 rows)) ∙ ap (λ (b : State). length (changed_places b)) c.self.view_is))
