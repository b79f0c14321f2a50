use Rattle.std.proofs.Common.{[], refl, ◌∙◌}
use Rattle.cpe_rows.specs.After.{after}
use Rattle.cpe_rows.specs.declared.edit.Edit.TheVariants as edit
use Rattle.engine_edits.specs.Parts.{rows_in}
use Rattle.engine_edits.proofs.MadeLemmas.{by_moved, reported}
use Rattle.engine_edits.proofs.checks.make_check.Goals as goal

pub set_result-requires : goal.set_result-requires
set_result-requires c = (c.args.key.key, c.requires.all.room)

pub returns-clause-are : goal.returns-clause-are
returns-clause-are c =
    let p = c.args.parts.now in
    let rows = rows_in p in
    let all = c.requires.all in
    by_moved p.registry p.verdicts c.set_result.new.self rows (after rows (edit.SetCheck c.args.key.key c.args.truth)) [] refl refl refl (c.set_result.ensures.verdicts c.args.key.key p.registry.table rows all.room all.are.verdicts) all.are

pub returns-clause-changes : goal.returns-clause-changes
returns-clause-changes c =
    let p = c.args.parts.now in
    let rows = rows_in p in
    let all = c.requires.all in
    let next = after rows (edit.SetCheck c.args.key.key c.args.truth) in
    reported rows next c.set_result.new.self c.changes.result (c.changes.ensures p.registry.table next (c.set_result.ensures.verdicts c.args.key.key p.registry.table rows all.room all.are.verdicts)) (c.set_result.ensures.known ∙ c.requires.known) refl
