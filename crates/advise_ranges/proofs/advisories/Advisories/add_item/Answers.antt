use Rattle.cpe_rows.specs.Weight.{name_weight}
use Rattle.advise_ranges.specs.declared.edit.AdviceEdit.TheVariants as edit
use Rattle.advise_ranges.proofs.WeightLemmas.{weighs_item, weight_after}
use Rattle.advise_ranges.proofs.advisories.Advisories.add_item.Goals as goal

pub item_fault-requires : goal.item_fault-requires
item_fault-requires c = let n = c.args.name in weight_after (name_weight n) (edit.Item n) c.with_name-weight.ensures c.self.invariant (weighs_item _ n) c.self.view_is

pub put_item-requires-clause-weight : goal.put_item-requires-clause-weight
put_item-requires-clause-weight c = let n = c.args.name in weight_after (name_weight n) (edit.Item n) c.with_name-weight.ensures c.self.invariant (weighs_item _ n) c.self.view_is
