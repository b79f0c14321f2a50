use Rattle.std.proofs.Common.{◌++◌, ◌+◌, ℕ, List, drop, refl, sym, ap, ◌∙◌}
use Rattle.cpe_dictionary.specs.Given.{are_entries}
use Rattle.cpe_dictionary.specs.Numbers.{numbers_of}
use Rattle.cpe_dictionary.proofs.names_in_order.Rows.{this_first}
use Rattle.cpe_dictionary.proofs.GivenNumbers.{absent_here, none_if, present_here}
use Rattle.cpe_dictionary.proofs.SeenLemmas.{number_more}
use Rattle.cpe_dictionary.proofs.given.entry_numbers.Goals as goal

pub loop-name-init : goal.loop-name-init
loop-name-init c = record {
  numbers = ap (λ (ks : List ℕ). ks ++ numbers_of c.args.dictionary.now c.args.names.now) c.in_ok-numbers.ensures;
  entries = refl;
}

pub returns-in-None : goal.returns-in-None
returns-in-None c =
    let es = c.args.dictionary.now in
    let names = c.args.names.now in
    let first = this_first names c.loop-name.name-index c.name-item.result c.loop-name-test.true c.name-item.is in
    none_if (are_entries es names) (numbers_of es names) (sym c.loop-name.invariant.entries ∙ absent_here es names _ _ first (sym c.in-None.ensures))

pub loop-name-preserved : goal.loop-name-preserved
loop-name-preserved c =
    let at = c.loop-name in
    let first = this_first c.args.names.now at.name-index c.name-item.result c.loop-name-test.true c.name-item.is in
    let es = c.args.dictionary.now in
    record {
      numbers =
          ap (λ (ks : List ℕ). ks ++ numbers_of es (drop (at.name-index + 1) c.args.names.now)) c.in_ok-push-in-Some.ensures.ok
          ∙ number_more es c.args.names.now _ _ first at.numbers c.in-Some.number (sym c.in-Some.ensures) at.invariant.numbers;
      entries = sym (present_here es c.args.names.now _ _ first c.in-Some.number (sym c.in-Some.ensures)) ∙ at.invariant.entries;
    }
