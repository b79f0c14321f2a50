use Rattle.std.proofs.Common.{◌≡◌, ◌<◌, ◌+◌, ◌∷◌, ℕ, suc, List, length, slice_set, sym, ap, ◌∙◌, arith}
use Rattle.std.specs.Prelude.{Option}
use Rattle.std.specs.Vec.Iter.{into_iter_items}
use Rattle.cpe_rows.specs.declared.entry.Deprecation.{Deprecation}
use Rattle.cpe_dictionary.specs.declared.kept.EntryDetails.{EntryDetails}
use Rattle.cpe_dictionary.specs.GivenEntries.{details_given}
use Rattle.cpe_dictionary.proofs.GivenDetails.{given_from, length_put, none_left, nothing_left, one_given}
use Rattle.cpe_dictionary.proofs.growing.give_all.Goals as goal

pub loop-deprecation-preserved : goal.loop-deprecation-preserved
loop-deprecation-preserved c =
    let at = c.loop-deprecation in
    let d = c.in-Some.deprecation in
    let x = c.index_mut.result.now in
    let all = at.all.items in
    let rest = into_iter_items c.next.new.self in
    let first : into_iter_items at.deprecation-iterator ≡ d ∷ rest = c.in-Some.ensures.steps.0 in
    let long = ap length first in
    let within : at.place < length all = omega (arith, at.invariant.even, long) in
    let next : at.place + 1 ≡ suc at.place = omega arith in
    let put : List EntryDetails = slice_set all at.place (record x { deprecation = d }) in
    record {
      given =
          ap (λ (k : ℕ). given_from k put rest) next ∙ one_given d rest at.place all x within c.index_mut.ensures.value
          ∙ sym (ap (λ (ds : List (Option Deprecation)). given_from at.place all ds) first) ∙ at.invariant.given;
      even = omega (arith, at.invariant.even, long, length_put all at.place (record x { deprecation = d }));
      left = omega (arith, at.invariant.left, long, c.in-Some.ensures.steps.1);
    }

pub returns : goal.returns
returns c =
    let at = c.loop-deprecation in
    let none = nothing_left (into_iter_items at.deprecation-iterator) (sym at.invariant.left ∙ c.in-None.ensures.steps.0) in
    sym (none_left at.place at.all.items)
    ∙ sym (ap (λ (ds : List (Option Deprecation)). given_from at.place at.all.items ds) none)
    ∙ at.invariant.given
    ∙ ap (λ (ds : List (Option Deprecation)). details_given c.args.all.now.items ds) (c.into_iter-deprecation-iterator.ensures.into_iter_gives.0 ∙ c.into_vec-deprecation-items.ensures)
