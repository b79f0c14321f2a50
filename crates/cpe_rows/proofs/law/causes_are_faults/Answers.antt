use Rattle.cpe_rows.proofs.Raised.{are_causes}
use Rattle.cpe_rows.proofs.law.causes_are_faults.Goals as goal

pub returns : goal.returns
returns c rows e within = are_causes rows within e
