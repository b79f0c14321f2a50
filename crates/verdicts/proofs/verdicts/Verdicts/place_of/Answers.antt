use Rattle.std.proofs.Common.{position, sym, ap, ◌∙◌}
use Rattle.cpe_rows.specs.Rows.{has_id}
use Rattle.statement_rows.specs.State.{is_of, StatementRow, statements_of}
use Rattle.statement_rows.proofs.PlaceLemmas.{first-map, position_is}
use Rattle.verdicts.specs.Verdicts.{statements_in, VerdictsNow}
use Rattle.verdicts.proofs.verdicts.Verdicts.place_of.Goals as goal

pub returns : goal.returns
returns c =
    let id = c.args.id.now in
    let js = c.self.inside.statements.rows in
    c.place_of.ensures
    ∙ position_is (is_of id) js
    ∙ sym (first-map (λ (j : StatementRow). j.statement) (has_id id) js)
    ∙ sym (position_is (has_id id) (statements_of js))
    ∙ ap (λ (v : VerdictsNow). position (has_id id) (statements_in v)) c.self.view_is
