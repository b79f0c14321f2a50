use Rattle.std.proofs.Common.{sym, ◌∙◌}
use Rattle.cpe_dictionary.proofs.GivenNumbers.{answer_found}
use Rattle.cpe_dictionary.proofs.given.successor_numbers.Goals as goal

pub returns-in-Some : goal.returns-in-Some
returns-in-Some c =
    answer_found c.args.dictionary.now c.args.deprecation.now c.as_slice-names.result.now c.is_count.result c.as_slice-names.ensures c.is_count.ensures c.in-Some.numbers c.if-not-is_count.false
    (sym c.in-Some.is ∙ c.in_ok-numbers.ensures) c.faults_by_number.ensures.repeats c.if_different.result c.if_different.ensures
