use Rattle.std.proofs.Common.{sym, ap, ◌∙◌}
use Rattle.std.specs.Prelude.{option_map}
use Rattle.statement_rows.specs.State.{is_of, use_of}
use Rattle.statement_rows.proofs.PlaceLemmas.{find_at, find_none, position_is}
use Rattle.statement_rows.proofs.TakeLemmas.{first_missing, first_within, removed_first}
use Rattle.statement_rows.proofs.statements.StatementRows.remove_statement.Goals as goal

pub remove_at-requires : goal.remove_at-requires
remove_at-requires c =
    let p = is_of c.args.id.now in
    let rows = c.args.self.now.rows in
    first_within p rows c.in-Some.place (sym (position_is p rows) ∙ sym c.in-Some.ensures)

pub returns-in-Some-clause-row : goal.returns-in-Some-clause-row
returns-in-Some-clause-row c =
    let p = is_of c.args.id.now in
    let rows = c.args.self.now.rows in
    c.remove_at.ensures.row ∙ sym (ap (option_map use_of) (find_at p rows c.in-Some.place (sym (position_is p rows) ∙ sym c.in-Some.ensures)))

pub returns-in-Some-clause-rows : goal.returns-in-Some-clause-rows
returns-in-Some-clause-rows c =
    let p = is_of c.args.id.now in
    let rows = c.args.self.now.rows in
    c.remove_at.ensures.rows ∙ removed_first p rows c.in-Some.place (sym (position_is p rows) ∙ sym c.in-Some.ensures)

pub returns-in-None-clause-row : goal.returns-in-None-clause-row
returns-in-None-clause-row c =
    let p = is_of c.args.id.now in
    let rows = c.args.self.now.rows in
    sym (ap (option_map use_of) (find_none p rows (sym (position_is p rows) ∙ sym c.in-None.ensures)))

pub returns-in-None-clause-rows : goal.returns-in-None-clause-rows
returns-in-None-clause-rows c =
    let p = is_of c.args.id.now in
    let rows = c.args.self.now.rows in
    sym (first_missing p rows (sym (position_is p rows) ∙ sym c.in-None.ensures)).1
