use Rattle.std.proofs.Common.{List, map, refl, ap, sym, ◌∙◌, ◌∷◌, [], take, take_all}
use Rattle.cpe_rows.specs.Evaluation.{joined, negated}
use Rattle.cpe_rows.specs.declared.test.CheckKey.{CheckKey}
use Rattle.cpe_rows.specs.declared.test.Test.{Test}
use Rattle.cpe_rows.specs.declared.truth.Truth.{Truth}
use Rattle.statement_rows.specs.declared.by_result.ByResult.{ByResult}
use Rattle.statement_rows.specs.ByResult.{at_result, each_result, truth_with}
use Rattle.statement_rows.specs.Readings.{reading, truths_along, truths_of}
use Rattle.statement_rows.proofs.ByResultLemmas.{each_at, each_same_result}
use Rattle.statement_rows.proofs.ReadingLemmas.{reading-logic, truth_step, rest_step}
use Rattle.statement_rows.proofs.by_result.+test_truths.Goals as goal

pub loop-child-preserved : goal.loop-child-preserved
loop-child-preserved g n c =
    let ts : List Truth = truths_of (g.T.FactTruth.fact_truth c.args.facts.now) c.args.mode c.args.ids.now in
    let items : List Test = c.as_slice-child-items.result.now in
    let i = c.loop-child.child-index in
    let child = c.child-item.result in
    let o = c.in-Logic.operator in
    let rest : List Truth = truths_of (g.T.FactTruth.fact_truth c.args.facts.now) c.args.mode c.loop-child.rest.now in
    let now : ByResult = c.loop-child.now in
    let next : ByResult = c.test_truths-next.result.truths in
    let so_far = λ (t : Truth). joined o (truths_along (map (reading (λ (key : CheckKey). t)) (take i items)) ts).0 in (
      c.join_each-now.ensures
          ∙ (λ j. each_result (λ t. truth_step (λ (key : CheckKey). t) o items i child c.loop-child-test.true c.child-item.is ts (at_result now t) (at_result next t)
          (joined o (at_result now t ∷ (at_result next t ∷ []))) rest (ap (λ (v : ByResult). at_result v t) c.loop-child.invariant.0 ∙ each_at so_far t) (c.loop-child.invariant.1 t)
          (ap (λ (v : ByResult). at_result v t) c.test_truths-next.ensures.truths ∙ each_at (truth_with child rest) t) refl j)),
      (λ t. rest_step (λ (key : CheckKey). t) o items i child c.loop-child-test.true c.child-item.is ts rest (truths_of (g.T.FactTruth.fact_truth c.args.facts.now) c.args.mode c.test_truths-next.result.rest.now)
          (c.loop-child.invariant.1 t) (c.test_truths-next.ensures.rest t)),
    )

pub returns-after-loop-child-clause-truths : goal.returns-after-loop-child-clause-truths
returns-after-loop-child-clause-truths g n c =
    let ts : List Truth = truths_of (g.T.FactTruth.fact_truth c.args.facts.now) c.args.mode c.args.ids.now in
    let o = c.in-Logic.operator in
    let n = c.in-Logic.negate in
    let all = take_all c.loop-child.child-index c.as_slice-child-items.result.now c.loop-child-test.false ∙ c.as_slice-child-items.ensures in
    let along = λ (of : List Test) (t : Truth). joined o (truths_along (map (reading (λ (key : CheckKey). t)) of) ts).0 in
    let now : ByResult = c.loop-child.now in
    c.negate_each.ensures
    ∙ each_same_result (λ t. negated n (at_result now t)) (truth_with c.args.test.now ts)
    (λ t. ap (λ (v : ByResult). negated n (at_result v t)) c.loop-child.invariant.0
    ∙ (ap (negated n) (each_at (along (take c.loop-child.child-index c.as_slice-child-items.result.now)) t)
    ∙ (ap (λ (of : List Test). negated n (along of t)) all
    ∙ (sym (ap (λ (r : Truth × List Truth). r.0) (reading-logic (λ (key : CheckKey). t) o n c.in-Logic.of ts))
    ∙ ap (λ (u : Test). (reading (λ (key : CheckKey). t) u ts).0) (sym c.in-Logic.is)))))

pub returns-after-loop-child-clause-rest : goal.returns-after-loop-child-clause-rest
returns-after-loop-child-clause-rest g n c t =
    let ts : List Truth = truths_of (g.T.FactTruth.fact_truth c.args.facts.now) c.args.mode c.args.ids.now in
    let o = c.in-Logic.operator in
    let n = c.in-Logic.negate in
    let all = take_all c.loop-child.child-index c.as_slice-child-items.result.now c.loop-child-test.false ∙ c.as_slice-child-items.ensures in
    c.loop-child.invariant.1 t
    ∙ (ap (λ (of : List Test). (truths_along (map (reading (λ (key : CheckKey). t)) of) ts).1) all
    ∙ (sym (ap (λ (r : Truth × List Truth). r.1) (reading-logic (λ (key : CheckKey). t) o n c.in-Logic.of ts))
    ∙ ap (λ (u : Test). (reading (λ (key : CheckKey). t) u ts).1) (sym c.in-Logic.is)))
