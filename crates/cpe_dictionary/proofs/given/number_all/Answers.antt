use Rattle.std.proofs.Common.{◌++◌, ◌+◌, ℕ, List, drop, map, refl, sym, ap, ◌∙◌}
use Rattle.std.specs.Prelude.{Option}
use Rattle.std.specs.List.{list_all}
use Rattle.cpe_dictionary.specs.Given.{may_have_deprecation}
use Rattle.cpe_dictionary.specs.Plans.{numbered_successors}
use Rattle.cpe_dictionary.proofs.names_in_order.Rows.{this_first}
use Rattle.cpe_dictionary.proofs.GivenNumbers.{may_here, may_not_here, none_if, numbered_more}
use Rattle.cpe_dictionary.proofs.given.number_all.Goals as goal

pub loop-deprecation-init : goal.loop-deprecation-init
loop-deprecation-init c = record {
  numbers = ap (λ (xs : List (Option (List ℕ))). xs ++ map (numbered_successors c.args.dictionary.now) c.args.deprecations.now) c.in_ok-all.ensures;
  may = refl;
}

pub returns-then-not-may : goal.returns-then-not-may
returns-then-not-may c =
    let all = c.args.deprecations.now in
    let es = c.args.dictionary.now in
    let first = this_first all c.loop-deprecation.deprecation-index c.deprecation-item.result c.loop-deprecation-test.true c.deprecation-item.is in
    none_if (list_all (may_have_deprecation es) all) (map (numbered_successors es) all) (sym c.loop-deprecation.invariant.may ∙ may_not_here es all _ _ first (sym c.in_ok-may.ensures.may ∙ c.if-not-may.true))

pub loop-deprecation-preserved : goal.loop-deprecation-preserved
loop-deprecation-preserved c =
    let at = c.loop-deprecation in
    let may = c.if-not-may.false in
    let es = c.args.dictionary.now in
    let all = c.args.deprecations.now in
    let first = this_first all at.deprecation-index c.deprecation-item.result c.loop-deprecation-test.true c.deprecation-item.is in
    record {
      numbers = ap (λ (xs : List (Option (List ℕ))). xs ++ map (numbered_successors es) (drop (at.deprecation-index + 1) all)) (c.in_ok-may.ensures.numbers may) ∙ numbered_more es all _ _ first at.all at.invariant.numbers;
      may = sym (may_here es all _ _ first (sym c.in_ok-may.ensures.may ∙ may)) ∙ at.invariant.may;
    }
