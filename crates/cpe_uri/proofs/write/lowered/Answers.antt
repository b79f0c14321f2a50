use Rattle.cpe_uri.proofs.Tables.{backslashes_at, lower_at}
use Rattle.cpe_uri.proofs.write.lowered.Goals as goal

pub returns-clause-backslashes : goal.returns-clause-backslashes
returns-clause-backslashes c = rw c.from.ensures (backslashes_at c.args.byte c.ranges.byte.fits)

pub returns-clause-lower : goal.returns-clause-lower
returns-clause-lower c = rw c.from.ensures (lower_at c.args.byte c.ranges.byte.fits)
