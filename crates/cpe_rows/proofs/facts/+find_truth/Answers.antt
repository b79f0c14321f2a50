use Rattle.cpe_rows.specs.Evaluation.{test_truth}
use Rattle.cpe_rows.proofs.Joined.{joined_more}
use Rattle.cpe_rows.proofs.facts.+find_truth.Goals as goal

pub loop-child-preserved : goal.loop-child-preserved
loop-child-preserved g t c =
    cc (
      c.in_ok-find_truth-in-Logic.ensures,
      joined_more c.in-Logic.operator (test_truth (g.F.FindFacts.fact_truth c.args.facts.now) (g.F.FindFacts.check_truth c.args.facts.now))
          c.as_slice-child-items.result.now c.loop-child.child-index c.child-item.result c.loop-child-test.true,
    )
