use Rattle.cpe_rows.specs.Weight.{name_weight}
use Rattle.row_weight.proofs.Sums.{one_more}
use Rattle.row_weight.proofs.weigh.with_deprecation.Goals as goal

pub loop-name-preserved : goal.loop-name-preserved
loop-name-preserved c =
    one_more name_weight c.as_slice-name-items.result.now c.loop-name.name-index c.name-item.result c.loop-name-test.true c.name-item.is
    c.args.weight c.loop-name.invariant c.with_name-sum.ensures
