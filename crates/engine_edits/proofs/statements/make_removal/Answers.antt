use Rattle.std.proofs.Common.{sym, ◌∙◌}
use Rattle.std.specs.List.{list_any}
use Rattle.std.specs.Prelude.{find, position}
use Rattle.cpe_rows.specs.Rows.{has_id}
use Rattle.engine_edits.specs.Parts.{rows_in}
use Rattle.engine_edits.specs.ChangedVerdicts.{dropped_by}
use Rattle.engine_edits.proofs.MadeLemmas.{is_there}
use Rattle.engine_edits.proofs.StatementLemmas.{dropped_reported}
use Rattle.engine_edits.proofs.statements.make_removal.Goals as goal

pub take_statement-requires-clause-has : goal.take_statement-requires-clause-has
take_statement-requires-clause-has g c = is_there (list_any (has_id c.args.id) (rows_in c.args.parts.now).statements) c.requires.none

pub returns-clause-changes : goal.returns-clause-changes
returns-clause-changes g c =
    let p = c.args.parts.now in
    let rows = rows_in p in
    let id = c.args.id in
    let truth = c.verdict-truth.ensures p.registry.table rows c.requires.all.are.verdicts in
    c.dropped_change.ensures
    ∙ (λ k. dropped_by (c.place_of-place.ensures k) (truth k))
    ∙ sym (dropped_reported rows (position (has_id id) rows.statements) (find (has_id id) rows.statements))
    ∙ sym (c.statements_are_independent.ensures.dropped_changes rows id)
