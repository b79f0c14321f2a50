use Rattle.std.proofs.Common.{Option, Some, sym, ap, subst, ◌∙◌}
use Rattle.std.specs.Prelude.{Err}
use Rattle.std.proofs.lemmas.Result.{err_from_is_err_and}
use Rattle.cpe_rows.specs.Causes.{causes, IsCause}
use Rattle.cpe_rows.specs.Step.{first_some}
use Rattle.cpe_rows.specs.declared.fault.EditFault.{EditFault}
use Rattle.verdicts.specs.name_registry.Registered.{name_in}
use Rattle.cpe_dictionary.proofs.DictionaryLemmas.{at_error}
use Rattle.engine_edits.specs.Numbered.{note_of, turned_entry}
use Rattle.engine_edits.specs.Parts.{rows_in}
use Rattle.engine_edits.proofs.NumberedLemmas.{first_cause}
use Rattle.engine_edits.proofs.parts.EngineParts.plan_change.Goals as goal

pub returns-in_err-plan-clause-err : goal.returns-in_err-plan-clause-err
returns-in_err-plan-clause-err c =
    let rows = rows_in c.args.self.now in
    let change = c.args.change.now in
    let n = name_in c.args.self.now.registry.table change.id in
    let same = first_cause rows n change.date change.comment change.turn c.dictionary-dictionary.ensures c.name-name.ensures c.is_first-first.ensures c.deprecation-deprecation.ensures in
    let f = c.in_err-plan.field-0.0 in
    let at = err_from_is_err_and c.from_residual.result c.from_residual.ensures.1 in
    at_error c.from_residual.result f (λ x. IsCause x (first_some (causes rows (turned_entry n change.turn change.date change.comment)))) (at.1 ∙ ap Err at.2)
    (subst (λ (o : Option EditFault). IsCause f o) same (c.in_err-plan.ensures.err (Some (note_of change.turn change.date change.comment))))

pub returns-clause-ok : goal.returns-clause-ok
returns-clause-ok c =
    let change = c.args.change.now in
    let n = name_in c.args.self.now.registry.table change.id in
    sym (first_cause (rows_in c.args.self.now) n change.date change.comment change.turn c.dictionary-dictionary.ensures c.name-name.ensures c.is_first-first.ensures c.deprecation-deprecation.ensures)
    ∙ c.in_ok-plan.ensures.ok (Some (note_of change.turn change.date change.comment))
