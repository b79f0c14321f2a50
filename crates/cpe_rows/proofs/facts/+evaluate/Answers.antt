use Rattle.cpe_rows.specs.Evaluation.{test_truth}
use Rattle.cpe_rows.proofs.Joined.{joined_more}
use Rattle.cpe_rows.proofs.facts.+evaluate.Goals as goal

pub loop-child-preserved : goal.loop-child-preserved
loop-child-preserved g t c =
    cc (joined_more c.in-Logic.operator (test_truth (g.F.Facts.fact_truth c.args.facts.now) (g.F.Facts.check_truth c.args.facts.now))
    c.as_slice-child-items.result.now c.loop-child.child-index c.child-item.result c.loop-child-test.true)
