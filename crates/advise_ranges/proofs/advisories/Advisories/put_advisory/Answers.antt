use Rattle.advise_ranges.specs.Weight.{advisory_weight}
use Rattle.advise_ranges.specs.declared.edit.AdviceEdit.TheVariants as edit
use Rattle.advise_ranges.proofs.WeightLemmas.{weighs_put, weight_after}
use Rattle.advise_ranges.proofs.advisories.Advisories.put_advisory.Goals as goal

pub advisory_fault-requires : goal.advisory_fault-requires
advisory_fault-requires c = let a = c.args.advisory in weight_after (advisory_weight a) (edit.Put a) c.with_advisory-weight.ensures c.self.invariant (weighs_put _ a) c.self.view_is

pub append_advisory-requires-clause-weight : goal.append_advisory-requires-clause-weight
append_advisory-requires-clause-weight c = let a = c.args.advisory in weight_after (advisory_weight a) (edit.Put a) c.with_advisory-weight.ensures c.self.invariant (weighs_put _ a) c.self.view_is
