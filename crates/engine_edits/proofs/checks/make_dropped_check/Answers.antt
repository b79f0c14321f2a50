use Rattle.std.proofs.Common.{[], refl, ◌∙◌}
use Rattle.cpe_rows.specs.After.{after}
use Rattle.cpe_rows.specs.declared.edit.Edit.TheVariants as edit
use Rattle.engine_edits.specs.Parts.{rows_in}
use Rattle.engine_edits.proofs.MadeLemmas.{by_moved, reported}
use Rattle.engine_edits.proofs.checks.make_dropped_check.Goals as goal

pub returns-clause-are : goal.returns-clause-are
returns-clause-are c =
    let p = c.args.parts.now in
    let rows = rows_in p in
    by_moved p.registry p.verdicts c.remove_result.new.self rows (after rows (edit.DropCheck c.args.key)) [] refl refl refl (c.remove_result.ensures.verdicts p.registry.table rows c.requires.all.verdicts) c.requires.all

pub returns-clause-changes : goal.returns-clause-changes
returns-clause-changes c =
    let p = c.args.parts.now in
    let rows = rows_in p in
    let next = after rows (edit.DropCheck c.args.key) in
    reported rows next c.remove_result.new.self c.changes.result (c.changes.ensures p.registry.table next (c.remove_result.ensures.verdicts p.registry.table rows c.requires.all.verdicts)) (c.remove_result.ensures.known ∙ c.requires.known) refl
