use Rattle.std.proofs.lemmas.List.Folds.{list_all_more}
use Rattle.cpe_name.specs.declared.attribute.Attribute.TheVariants.{Part}
use Rattle.cpe_name.specs.Names.{attributes}
use Rattle.cpe_relation.proofs.order.deciding_order.Goals as goal

pub loop-which-preserved : goal.loop-which-preserved
loop-which-preserved c =
    λ test. cc (c.in_ok-put.ensures test, c.loop-which.invariant test, list_all_more test attributes c.loop-which.which-index Part c.loop-which-test.true)
