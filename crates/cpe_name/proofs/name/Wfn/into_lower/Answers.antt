use Rattle.cpe_name.proofs.LowerNames.{lower_lawful}
use Rattle.cpe_name.proofs.name.Wfn.into_lower.Goals as goal

pub invariant_of-result : goal.invariant_of-result
invariant_of-result c = rw c.make_lower_values.ensures (lower_lawful c.self.inside.values c.self.invariant)
