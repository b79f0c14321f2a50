use Rattle.std.proofs.Common.{◌≡◌, map, take}
use Rattle.cpe_rows.specs.Evaluation.{joined}
use Rattle.cpe_rows.specs.declared.test.CheckKey.{CheckKey}
use Rattle.cpe_rows.specs.declared.truth.Truth.{Truth}
use Rattle.statement_rows.specs.ByResult.{each_result}
use Rattle.statement_rows.specs.Readings.{reading, truths_along, truths_of}
use Rattle.statement_rows.proofs.by_result.+test_truths.Given as goal

abbrev pub invariant-loop-child : goal.invariant-loop-child
invariant-loop-child g l =
    (l.now ≡ each_result (λ t. joined l.operator (truths_along (map (reading (λ (key : CheckKey). t)) (take l.child-index l.child-items)) (truths_of (g.T.FactTruth.fact_truth l.facts) l.mode l.ids)).0))
    × ((t : Truth) → truths_of (g.T.FactTruth.fact_truth l.facts) l.mode l.rest ≡ (truths_along (map (reading (λ (key : CheckKey). t)) (take l.child-index l.child-items)) (truths_of (g.T.FactTruth.fact_truth l.facts) l.mode l.ids)).1)
