use Rattle.std.proofs.Common.{◌≡◌, take, map}
use Rattle.cpe_rows.specs.Evaluation.{test_truth, joined}
use Rattle.cpe_rows.proofs.facts.+evaluate.Given as goal

abbrev pub invariant-loop-child : goal.invariant-loop-child
invariant-loop-child g l =
    l.truth ≡ joined l.operator (map (test_truth (g.F.Facts.fact_truth l.facts) (g.F.Facts.check_truth l.facts)) (take l.child-index l.child-items))
