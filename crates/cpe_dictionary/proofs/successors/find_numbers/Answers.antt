use Rattle.std.proofs.Common.{◌+◌, ◌++◌, ℕ, List, drop, refl, sym, ap, ◌∙◌}
use Rattle.std.specs.Prelude.{option_map}
use Rattle.cpe_rows.specs.declared.fault.EditFault.TheVariants as fault
use Rattle.cpe_dictionary.specs.Numbers.{numbers_of}
use Rattle.cpe_dictionary.proofs.names_in_order.Rows.{this_first}
use Rattle.cpe_dictionary.proofs.SeenLemmas.{place_from_start, unknown_here, known_here, number_more}
use Rattle.cpe_dictionary.proofs.successors.find_numbers.Goals as goal

pub loop-name-init : goal.loop-name-init
loop-name-init c = record {
  place = refl;
  numbers = ap (λ (ks : List ℕ). ks ++ numbers_of c.args.dictionary.now c.args.names.now) c.new-numbers.ensures;
  unknown = place_from_start c.args.dictionary.now c.args.names.now;
}

pub returns-in-None-clause-err : goal.returns-in-None-clause-err
returns-in-None-clause-err c =
    let at = c.loop-name in
    let first = this_first c.args.names.now at.name-index c.name-item.result c.loop-name-test.true c.name-item.is in
    ap (option_map fault.UnknownSuccessor) (at.invariant.unknown ∙ ap (option_map (λ k. k + 1)) (unknown_here c.args.dictionary.now c.args.names.now _ _ first at.place (sym c.in-None.ensures)))

pub loop-name-preserved : goal.loop-name-preserved
loop-name-preserved c =
    let at = c.loop-name in
    let known = sym c.in-Some.ensures in
    let more = this_first c.args.names.now at.name-index c.name-item.result c.loop-name-test.true c.name-item.is in
    record {
      place = ap (λ (p : ℕ). p + 1) at.invariant.place;
      numbers =
          ap (λ (ks : List ℕ). ks ++ numbers_of c.args.dictionary.now (drop (at.name-index + 1) c.args.names.now)) c.in_ok-push-in-Some.ensures.ok
          ∙ number_more c.args.dictionary.now c.args.names.now _ _ more at.numbers c.in-Some.number known at.invariant.numbers;
      unknown = at.invariant.unknown ∙ ap (option_map (λ k. k + 1)) (known_here c.args.dictionary.now c.args.names.now _ _ more at.place c.in-Some.number known);
    }
