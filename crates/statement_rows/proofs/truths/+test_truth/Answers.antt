use Rattle.std.proofs.Common.{List, map, ap, sym, ◌∙◌, take_all}
use Rattle.cpe_rows.specs.Evaluation.{joined, negated}
use Rattle.cpe_rows.specs.declared.test.Test.{Test}
use Rattle.cpe_rows.specs.declared.truth.Truth.{Truth}
use Rattle.check_results.specs.Kept.{kept_truth}
use Rattle.statement_rows.specs.Readings.{reading, truths_along, truths_of}
use Rattle.statement_rows.proofs.ReadingLemmas.{reading-logic, truth_step, rest_step}
use Rattle.statement_rows.proofs.truths.+test_truth.Goals as goal

pub loop-child-preserved : goal.loop-child-preserved
loop-child-preserved g t c =
    let check = kept_truth c.args.results.now.list in
    let ts : List Truth = truths_of (g.T.FactTruth.fact_truth c.args.facts.now) c.args.mode c.args.ids.now in
    let items : List Test = c.as_slice-child-items.result.now in
    let i = c.loop-child.child-index in
    let child = c.child-item.result in
    let rest : List Truth = truths_of (g.T.FactTruth.fact_truth c.args.facts.now) c.args.mode c.loop-child.rest.now in (
      truth_step check c.in-Logic.operator items i child c.loop-child-test.true c.child-item.is ts c.loop-child.truth c.test_truth-next.result.truth c.join-truth.result rest c.loop-child.invariant.0 c.loop-child.invariant.1 c.test_truth-next.ensures.truth c.join-truth.ensures,
      rest_step check c.in-Logic.operator items i child c.loop-child-test.true c.child-item.is ts rest (truths_of (g.T.FactTruth.fact_truth c.args.facts.now) c.args.mode c.test_truth-next.result.rest.now) c.loop-child.invariant.1 c.test_truth-next.ensures.rest,
    )

pub returns-after-loop-child : goal.returns-after-loop-child
returns-after-loop-child g t c =
    let check = kept_truth c.args.results.now.list in
    let ts : List Truth = truths_of (g.T.FactTruth.fact_truth c.args.facts.now) c.args.mode c.args.ids.now in
    let o = c.in-Logic.operator in
    let n = c.in-Logic.negate in
    let all = take_all c.loop-child.child-index c.as_slice-child-items.result.now c.loop-child-test.false ∙ c.as_slice-child-items.ensures in
    record {
      truth = c.negation.ensures
          ∙ (ap (negated n) c.loop-child.invariant.0
          ∙ (ap (λ (of : List Test). negated n (joined o (truths_along (map (reading check) of) ts).0)) all
          ∙ (sym (ap (λ (r : Truth × List Truth). r.0) (reading-logic check o n c.in-Logic.of ts))
          ∙ ap (λ (u : Test). (reading check u ts).0) (sym c.in-Logic.is))));
      rest = c.loop-child.invariant.1
          ∙ (ap (λ (of : List Test). (truths_along (map (reading check) of) ts).1) all
          ∙ (sym (ap (λ (r : Truth × List Truth). r.1) (reading-logic check o n c.in-Logic.of ts))
          ∙ ap (λ (u : Test). (reading check u ts).1) (sym c.in-Logic.is)));
    }
