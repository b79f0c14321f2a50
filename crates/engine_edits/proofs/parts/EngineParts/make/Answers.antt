use Rattle.std.proofs.Common.{refl, [], sym, ap, subst, ◌∙◌}
use Rattle.cpe_rows.specs.After.{after}
use Rattle.cpe_rows.specs.Changes.{changes}
use Rattle.cpe_rows.specs.Weight.{weight}
use Rattle.cpe_rows.specs.declared.edit.Edit.{Edit}
use Rattle.name_index.specs.step_count.Within.{StepsWithin}
use Rattle.engine_edits.specs.Looks.{made_looks}
use Rattle.engine_edits.specs.Parts.{rows_in}
use Rattle.engine_edits.specs.Ready.{edit_ready}
use Rattle.engine_edits.proofs.PartsLemmas.{rows_are, stay_kept}
use Rattle.engine_edits.proofs.parts.EngineParts.make.Goals as goal

pub make-changes-requires : goal.make-changes-requires
make-changes-requires g c = c.requires.1.ready

pub returns-clause-kept : goal.returns-clause-kept
returns-clause-kept g c =
    let p = c.args.self.now in
    let rows = rows_in p in
    let is = c.requires.1 in
    let d = edit_ready p.registry.table c.args.ready.edit in
    stay_kept _ (after rows d) c.args.ready.weight (c.rows_stay_lawful.ensures.kept rows (after rows d) d is.ready.accepted) refl (is.weight ∙ ap (λ (e : Edit). weight (after rows e)) (sym is.is)) c.make-changes.ensures.are

pub returns-clause-rows : goal.returns-clause-rows
returns-clause-rows g c e is =
    let p = c.args.self.now in
    let rows = rows_in p in
    let new = c.make-changes.new.parts in
    rows_are (record { registry = new.registry; verdicts = new.verdicts; weight = c.args.ready.weight }) (after rows (edit_ready p.registry.table c.args.ready.edit)) [] c.make-changes.ensures.are ∙ ap (after rows) is.is

pub returns-clause-changes : goal.returns-clause-changes
returns-clause-changes g c e is = c.make-changes.ensures.changes ∙ ap (changes (rows_in c.args.self.now)) is.is

pub returns-clause-steps : goal.returns-clause-steps
returns-clause-steps g c e is = subst (λ (d : Edit). StepsWithin c.args.steps.now c.make-changes.new.steps (made_looks (rows_in c.args.self.now) d)) is.is c.make-changes.ensures.steps
