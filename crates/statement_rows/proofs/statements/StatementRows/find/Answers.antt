use Rattle.std.proofs.Common.{sym, ap, ◌∙◌}
use Rattle.std.specs.Prelude.{option_map}
use Rattle.cpe_rows.specs.Rows.{has_id}
use Rattle.cpe_rows.specs.declared.statement.Statement.{Statement}
use Rattle.statement_rows.specs.State.{StatementRow, is_of}
use Rattle.statement_rows.proofs.PlaceLemmas.{find-map, find_at, find_none, position_is}
use Rattle.statement_rows.proofs.statements.StatementRows.find.Goals as goal

abbrev statement_in : StatementRow → Statement
statement_in j = j.statement

pub returns-in-Some : goal.returns-in-Some
returns-in-Some c =
    let p = is_of c.args.id.now in
    let rows = c.args.self.now.rows in
    c.statement_at.ensures
    ∙ (ap (option_map statement_in) (sym (find_at p rows c.in-Some.place (sym (position_is p rows) ∙ sym c.in-Some.ensures))) ∙ sym (find-map statement_in (has_id c.args.id.now) rows))

pub returns-in-None : goal.returns-in-None
returns-in-None c =
    let p = is_of c.args.id.now in
    let rows = c.args.self.now.rows in
    sym (find-map statement_in (has_id c.args.id.now) rows ∙ ap (option_map statement_in) (find_none p rows (sym (position_is p rows) ∙ sym c.in-None.ensures)))
