use Rattle.std.proofs.Common.{List, Some, ap, sym, ◌∙◌}
use Rattle.std.proofs.lemmas.Bool.{eqb-true}
use Rattle.std.proofs.lemmas.List.{nil_from_length}
use Rattle.cpe_rows.specs.Rows.{Rows}
use Rattle.engine_snapshot.specs.Begun.{with_statements}
use Rattle.engine_snapshot.specs.Read.{with_results}
use Rattle.engine_snapshot.proofs.EditLemmas.{handed_on}
use Rattle.engine_snapshot.proofs.OtherLemmas.{lawful_items, results_fit, results_there, statements_fit, statements_there}
use Rattle.engine_snapshot.proofs.read.read_others.Goals as goal

pub returns-in_err-read_items-clause-refused : goal.returns-in_err-read_items-clause-refused
returns-in_err-read_items-clause-refused g c =
    handed_on c.from_residual.result c.in_err-read_items.field-0.0 _ c.from_residual.ensures.1
    (λ is others lawful. c.in_err-read_items.ensures.refused is others.items others.after_items others.items_are
    (lawful_items c.args.head c.args.cursor.now c.args.engine.now others lawful))

pub returns-in_err-read_statements-clause-refused : goal.returns-in_err-read_statements-clause-refused
returns-in_err-read_statements-clause-refused g c =
    let items = c.in_ok-read_items.ensures.ok in
    handed_on c.from_residual-in_err-read_statements.result c.in_err-read_statements.field-0.0 _ c.from_residual-in_err-read_statements.ensures.1
    (λ is others lawful. c.in_err-read_statements.ensures.refused is others.statements others.after_statements
    (statements_there c.args.head c.args.cursor.now c.args.engine.now others lawful c.read_items.new.cursor c.read_items.new.engine items)
    (statements_fit c.args.head c.args.cursor.now c.args.engine.now others lawful c.read_items.new.cursor c.read_items.new.engine items))

pub returns-in_err-read_results-clause-refused : goal.returns-in_err-read_results-clause-refused
returns-in_err-read_results-clause-refused g c =
    let items = c.in_ok-read_items.ensures.ok in
    let statements = c.in_ok-read_statements.ensures.ok in
    let left = c.read_statements.new.cursor in
    let engine = c.read_statements.new.engine in
    handed_on c.from_residual-in_err-read_results.result c.in_err-read_results.field-0.0 _ c.from_residual-in_err-read_results.ensures.1
    (λ is others lawful. c.in_err-read_results.ensures.refused is others.results _
    (results_there c.args.head c.args.cursor.now c.args.engine.now others lawful c.read_items.new.cursor c.read_items.new.engine items left engine statements)
    (results_fit c.args.head c.args.cursor.now c.args.engine.now others lawful c.read_items.new.cursor c.read_items.new.engine items left engine statements))

pub returns-then-is_done-clause-ok : goal.returns-then-is_done-clause-ok
returns-then-is_done-clause-ok g c =
    let items = c.in_ok-read_items.ensures.ok in
    let statements = c.in_ok-read_statements.ensures.ok in
    let results = c.in_ok-read_results.ensures.ok in
    let left = c.read_results.new.cursor in
    let nothing = nil_from_length left (eqb-true _ _ (sym c.is_done.ensures ∙ c.if-is_done.true)) in (
      record {
        items = items.rows;
        after_items = c.read_items.new.cursor;
        statements = statements.rows;
        after_statements = c.read_statements.new.cursor;
        results = results.rows;
        items_are = items.are_read;
        statements_are = statements.are_read;
        results_are = results.are_read ∙ ap (λ (l : List _). Some (results.rows, l)) nothing;
      },
      results.are_put
          ∙ ap (λ (r : Rows). with_results r results.rows) (statements.are_put ∙ ap (λ (r : Rows). with_statements r statements.rows) items.are_put),
    )
