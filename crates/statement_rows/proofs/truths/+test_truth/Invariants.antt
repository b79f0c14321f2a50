use Rattle.std.proofs.Common.{◌≡◌, take, map}
use Rattle.cpe_rows.specs.Evaluation.{joined}
use Rattle.check_results.specs.Kept.{kept_truth}
use Rattle.statement_rows.specs.Readings.{reading, truths_along, truths_of}
use Rattle.statement_rows.proofs.truths.+test_truth.Given as goal

abbrev pub invariant-loop-child : goal.invariant-loop-child
invariant-loop-child g l =
    (l.truth ≡ joined l.operator (truths_along (map (reading (kept_truth l.results.list)) (take l.child-index l.child-items)) (truths_of (g.T.FactTruth.fact_truth l.facts) l.mode l.ids)).0)
    × (truths_of (g.T.FactTruth.fact_truth l.facts) l.mode l.rest ≡ (truths_along (map (reading (kept_truth l.results.list)) (take l.child-index l.child-items)) (truths_of (g.T.FactTruth.fact_truth l.facts) l.mode l.ids)).1)
