use Rattle.std.proofs.Common.{◌≡◌, take, map}
use Rattle.cpe_rows.specs.Evaluation.{test_truth, joined}
use Rattle.cpe_rows.proofs.facts.+find_truth.Given as goal

abbrev pub invariant-loop-child : goal.invariant-loop-child
invariant-loop-child g l =
    l.truth ≡ joined l.operator (map (test_truth (g.F.FindFacts.fact_truth l.facts) (g.F.FindFacts.check_truth l.facts)) (take l.child-index l.child-items))
