use Rattle.std.proofs.Common.{ℕ, List, Option, sym, ap, subst, ◌∙◌, Some, Err}
use Rattle.std.specs.Prelude.{option_and_then}
use Rattle.std.proofs.lemmas.Result.{err_from_is_err_and}
use Rattle.cpe_rows.specs.Step.{first_some}
use Rattle.cpe_rows.specs.declared.entry.Note.{Note}
use Rattle.deprecation_graph.specs.Faults.{change_fault}
use Rattle.deprecation_graph.specs.Graph.{IsChange}
use Rattle.cpe_dictionary.specs.Numbers.{nodes_of_entries}
use Rattle.cpe_rows.specs.Causes.{IsCause}
use Rattle.cpe_dictionary.specs.Causes.{named_fault, deprecation_causes}
use Rattle.cpe_rows.proofs.CauseLemmas.{cause_moves}
use Rattle.cpe_dictionary.proofs.DictionaryLemmas.{at_error}
use Rattle.cpe_dictionary.proofs.SuccessorLemmas.{asks, none_earlier, causes_named, causes_absent}
use Rattle.cpe_dictionary.proofs.successors.find_successors.Goals as goal

pub check-requires : goal.check-requires
check-requires c =
    let es = c.args.dictionary.now in
    subst (λ (xs : List ℕ). IsChange (nodes_of_entries es) c.args.number (Some xs)) (sym c.as_slice.ensures) (asks es c.args.name.now c.args.number c.args.deprecation.now c.in_ok-numbers.numbers c.edits_are_changes.ensures.changes c.requires c.in_ok-numbers.ensures.ok)

pub returns-in_err-check-clause-err : goal.returns-in_err-check-clause-err
returns-in_err-check-clause-err c =
    let es = c.args.dictionary.now in
    let n = c.args.name.now in
    let k = c.args.number in
    let d = c.args.deprecation.now in
    let ks = c.in_ok-numbers.numbers in
    let asked = c.in_ok-numbers.ensures.ok in
    let slice = c.as_slice.ensures ∙ asked.numbers in
    let p = err_from_is_err_and c.from_residual-in_err-check.result c.from_residual-in_err-check.ensures.1 in
    let named = λ (note : Option Note). causes_named es n k c.requires c.lawful.ensures.lawful.names_differ c.edits_by_number.ensures.writes c.edits_are_changes.ensures.width note c.faults_by_number.ensures.cycles d asked.entries (none_earlier es d ks asked)
    ∙ ap (λ (xs : List ℕ). option_and_then (named_fault es) (change_fault (nodes_of_entries es) k (Some xs))) (sym slice) in
    at_error c.from_residual-in_err-check.result c.in_err-check.field-0.0 (λ f. (note : Option Note) → IsCause f (first_some (deprecation_causes es n d note))) (p.1 ∙ ap Err p.2)
    (λ note. cause_moves c.in_err-check.field-0.0 (option_and_then (named_fault es) (change_fault (nodes_of_entries es) k (Some c.as_slice.result.now))) (first_some (deprecation_causes es n d note)) (λ h. named note ∙ h) c.in_err-check.ensures.err)

pub returns-clause-allowed : goal.returns-clause-allowed
returns-clause-allowed c =
    let es = c.args.dictionary.now in
    record {
      change = asks es c.args.name.now c.args.number c.args.deprecation.now c.in_ok-numbers.numbers c.edits_are_changes.ensures.changes c.requires c.in_ok-numbers.ensures.ok;
      no_fault = ap (λ (xs : List ℕ). change_fault (nodes_of_entries es) c.args.number (Some xs)) (sym c.as_slice.ensures) ∙ c.in_ok-check.ensures.ok;
    }

pub returns-clause-ok : goal.returns-clause-ok
returns-clause-ok c =
    let es = c.args.dictionary.now in
    let k = c.args.number in
    let d = c.args.deprecation.now in
    let asked = c.in_ok-numbers.ensures.ok in
    let no_fault = ap (λ (xs : List ℕ). change_fault (nodes_of_entries es) k (Some xs)) (sym (c.as_slice.ensures ∙ asked.numbers)) ∙ c.in_ok-check.ensures.ok in
    λ note. causes_absent es c.args.name.now k c.requires c.lawful.ensures.lawful.names_differ c.edits_by_number.ensures.writes c.edits_are_changes.ensures.width note c.faults_by_number.ensures.cycles d asked.entries (none_earlier es d c.in_ok-numbers.numbers asked) no_fault
