use Rattle.cpe_name.specs.Equal.{same_name-Decides}
use Rattle.cpe_name.specs.Lower.{lower_name}
use Rattle.cpe_name.proofs.name.Wfn.same.Goals as goal

pub returns : goal.returns
returns c = rw c.is_same.ensures (same_name-Decides (lower_name c.args.self.now) (lower_name c.args.other.now))
