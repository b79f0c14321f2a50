use Rattle.std.proofs.Common.{Option, None, sym, ap, ◌∙◌, refl}
use Rattle.std.specs.Prelude.{Err, option_and_then}
use Rattle.std.proofs.lemmas.Result.{err_from_is_err_and}
use Rattle.cpe_rows.specs.Causes.{IsCause}
use Rattle.cpe_rows.specs.declared.entry.Note.{Note}
use Rattle.cpe_rows.proofs.CauseLemmas.{cause_moves}
use Rattle.deprecation_graph.specs.Faults.{change_fault}
use Rattle.cpe_dictionary.specs.Numbers.{nodes_of_entries}
use Rattle.cpe_dictionary.specs.Causes.{named_fault, width_cause}
use Rattle.cpe_dictionary.proofs.DictionaryLemmas.{asks_none, at_error}
use Rattle.cpe_dictionary.proofs.SuccessorLemmas.{width_absent, width_named}
use Rattle.cpe_dictionary.proofs.dictionary.Dictionary.plan_restoration.Goals as goal

pub check-requires : goal.check-requires
check-requires c = asks_none c.args.self.now c.args.name.now c.args.number c.requires

pub returns-in_err-check-clause-err : goal.returns-in_err-check-clause-err
returns-in_err-check-clause-err c =
    let es = c.args.self.now in
    let n = c.args.name.now in
    let k = c.args.number in
    let f = c.in_err-check.field-0.0 in
    let p = err_from_is_err_and c.from_residual.result c.from_residual.ensures.1 in
    at_error c.from_residual.result f (λ x. (note : Option Note) → IsCause x (width_cause es n None note)) (p.1 ∙ ap Err p.2)
    (λ note.
    let named = width_named es n k c.requires c.lawful.ensures.lawful.names_differ c.edits_by_number.ensures.writes c.edits_are_changes.ensures.width note in
    cause_moves f (option_and_then (named_fault es) (change_fault (nodes_of_entries es) k None)) (width_cause es n None note) (λ h. sym named ∙ h) c.in_err-check.ensures.err)

pub returns-clause-plan : goal.returns-clause-plan
returns-clause-plan c = record {
  place = c.requires;
  next = refl;
  allowed = record { change = asks_none c.args.self.now c.args.name.now c.args.number c.requires; no_fault = c.in_ok-check.ensures.ok };
}

pub returns-clause-ok : goal.returns-clause-ok
returns-clause-ok c =
    let es = c.args.self.now in
    λ note. width_absent es c.args.name.now c.args.number c.requires c.lawful.ensures.lawful.names_differ c.edits_by_number.ensures.writes c.edits_are_changes.ensures.width note c.in_ok-check.ensures.ok
