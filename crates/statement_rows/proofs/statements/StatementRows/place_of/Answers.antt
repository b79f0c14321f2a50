use Rattle.std.proofs.Common.{map, position, sym, ap, ◌∙◌}
use Rattle.statement_rows.specs.State.{State, is_of, view_of}
use Rattle.statement_rows.proofs.PlaceLemmas.{first-map, position_is}
use Rattle.statement_rows.proofs.statements.StatementRows.place_of.Goals as goal

pub returns : goal.returns
returns c =
    let rows = c.self.inside.rows.items in
    let p = is_of c.args.id.now in
    c.place_by_id.ensures ∙ (sym (first-map view_of p rows) ∙ (sym (position_is p (map view_of rows)) ∙ ap (λ (b : State). position p b.rows) c.self.view_is))
