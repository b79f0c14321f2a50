use Rattle.std.proofs.Common.{sym, ap, ◌∙◌}
use Rattle.std.specs.Prelude.{option_map}
use Rattle.statement_rows.specs.State.{is_of, use_of}
use Rattle.statement_rows.proofs.PlaceLemmas.{find_at, find_none, position_is}
use Rattle.statement_rows.proofs.statements.StatementRows.use_of.Goals as goal

pub returns-in-Some : goal.returns-in-Some
returns-in-Some c =
    let p = is_of c.args.id.now in
    let rows = c.args.self.now.rows in
    c.use_at.ensures ∙ sym (ap (option_map use_of) (find_at p rows c.in-Some.place (sym (position_is p rows) ∙ sym c.in-Some.ensures)))

pub returns-in-None : goal.returns-in-None
returns-in-None c =
    let p = is_of c.args.id.now in
    let rows = c.args.self.now.rows in
    sym (ap (option_map use_of) (find_none p rows (sym (position_is p rows) ∙ sym c.in-None.ensures)))
