use Rattle.std.proofs.Common.{Option, refl, sym, ap, subst, ◌∙◌}
use Rattle.std.proofs.lemmas.Result.{IfErr-weaker, IfOk-weaker}
use Rattle.cpe_rows.specs.Causes.{causes, IsCause}
use Rattle.cpe_rows.specs.Step.{first_some}
use Rattle.cpe_rows.specs.declared.fault.EditFault.{EditFault}
use Rattle.cpe_dictionary.specs.Kept.{new_entry}
use Rattle.verdicts.specs.name_registry.Registered.{name_in}
use Rattle.engine_edits.specs.Numbered.{edit_of}
use Rattle.engine_edits.specs.Parts.{rows_in}
use Rattle.engine_edits.specs.declared.numbered.NumberedEdit.{NumberedEdit}
use Rattle.engine_edits.proofs.parts.EngineParts.plan.Goals as goal

pub returns-in-Entry-clause-ok : goal.returns-in-Entry-clause-ok
returns-in-Entry-clause-ok c =
    let e = new_entry (name_in c.args.self.now.registry.table c.in-Entry.id) c.in-Entry.title c.in-Entry.provenance in
    let same = ap (λ (x : NumberedEdit). first_some (causes (rows_in c.args.self.now) (edit_of c.args.self.now.registry.table x))) c.in-Entry.is in
    IfOk-weaker c.unplanned.result _ _ (λ p none. same ∙ sym (c.entry_fault.ensures e refl) ∙ none) c.unplanned.ensures.ok

pub returns-in-Entry-clause-err : goal.returns-in-Entry-clause-err
returns-in-Entry-clause-err c =
    let e = new_entry (name_in c.args.self.now.registry.table c.in-Entry.id) c.in-Entry.title c.in-Entry.provenance in
    let same = ap (λ (x : NumberedEdit). first_some (causes (rows_in c.args.self.now) (edit_of c.args.self.now.registry.table x))) c.in-Entry.is in
    IfErr-weaker c.unplanned.result _ _ (λ f h. subst (λ (o : Option EditFault). IsCause f o) (c.entry_fault.ensures e refl ∙ sym same) h) c.unplanned.ensures.err
