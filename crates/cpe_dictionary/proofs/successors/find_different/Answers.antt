use Rattle.std.proofs.Common.{[], nat_eq, sym, ap, ◌∙◌}
use Rattle.cpe_rows.specs.Faults.{repeated_from}
use Rattle.cpe_dictionary.proofs.SuccessorLemmas.{are_asked}
use Rattle.cpe_dictionary.proofs.successors.find_different.Goals as goal

pub returns-clause-ok : goal.returns-clause-ok
returns-clause-ok c =
    let apart = ap (repeated_from nat_eq [] 1) (sym c.as_slice.ensures) ∙ sym c.in_default.ensures in
    are_asked c.args.dictionary.now c.args.deprecation.now c.as_slice-names.result.now c.in_ok-numbers.numbers c.is_count.result c.edits_are_changes.ensures.known c.faults_by_number.ensures.repeats c.as_slice-names.ensures c.is_count.ensures c.if-not-is_count.false c.in_ok-numbers.ensures.ok c.in_ok-numbers.ensures.numbers apart
