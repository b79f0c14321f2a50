use Rattle.cpe_name.specs.Equal.{same_name-Decides}
use Rattle.cpe_name.proofs.equal.WfnPartialEq.eq.Goals as goal

pub returns-clause-same : goal.returns-clause-same
returns-clause-same c = rw c.is_same.ensures (same_name-Decides c.args.self.now c.args.other.now)
