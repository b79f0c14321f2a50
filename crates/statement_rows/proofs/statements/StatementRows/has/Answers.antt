use Rattle.std.proofs.Common.{sym, ◌∙◌}
use Rattle.statement_rows.specs.State.{is_of}
use Rattle.statement_rows.proofs.PlaceLemmas.{position_is}
use Rattle.statement_rows.proofs.TakeLemmas.{first_any, first_missing}
use Rattle.statement_rows.proofs.statements.StatementRows.has.Goals as goal

pub returns-in-Some : goal.returns-in-Some
returns-in-Some c =
    let p = is_of c.args.id.now in
    let rows = c.args.self.now.rows in
    sym (first_any p rows _ (sym (position_is p rows) ∙ sym c.in-Some.ensures))

pub returns-in-None : goal.returns-in-None
returns-in-None c =
    let p = is_of c.args.id.now in
    let rows = c.args.self.now.rows in
    sym (first_missing p rows (sym (position_is p rows) ∙ sym c.in-None.ensures)).0
