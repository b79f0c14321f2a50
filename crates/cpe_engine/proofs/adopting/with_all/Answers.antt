use Rattle.cpe_engine.specs.Adopting.{given_weight}
use Rattle.row_weight.proofs.Sums.{one_more}
use Rattle.cpe_engine.proofs.adopting.with_all.Goals as goal

pub loop-deprecation-preserved : goal.loop-deprecation-preserved
loop-deprecation-preserved c =
    one_more given_weight c.args.deprecations.now c.loop-deprecation.deprecation-index c.deprecation-item.result c.loop-deprecation-test.true c.deprecation-item.is
    c.args.weight c.loop-deprecation.invariant c.with_given-sum.ensures
