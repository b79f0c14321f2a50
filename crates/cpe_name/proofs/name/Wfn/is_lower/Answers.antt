use Rattle.cpe_name.specs.Equal.{same_name-Decides}
use Rattle.cpe_name.specs.Lower.{lower_name}
use Rattle.cpe_name.proofs.name.Wfn.is_lower.Goals as goal

pub returns : goal.returns
returns c = rw c.is_lower.ensures (same_name-Decides (lower_name c.args.self.now) c.args.self.now)
