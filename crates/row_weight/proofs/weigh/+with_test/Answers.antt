use Rattle.std.proofs.Common.{◌+◌}
use Rattle.cpe_rows.specs.Weight.{test_weight, weighs}
use Rattle.row_weight.proofs.Sums.{one_more}
use Rattle.row_weight.proofs.weigh.+with_test.Goals as goal

pub loop-child-preserved : goal.loop-child-preserved
loop-child-preserved t c =
    one_more test_weight c.as_slice-child-items.result.now c.loop-child.child-index c.child-item.result c.loop-child-test.true c.child-item.is
    (c.args.weight + weighs 0) c.loop-child.invariant c.with_test-sum.ensures
