use Rattle.cpe_uri.proofs.Tables.{length_at}
use Rattle.cpe_uri.proofs.spelling.unquoted_length.Goals as goal

pub returns : goal.returns
returns c = rw c.from.ensures (length_at c.args.byte c.ranges.byte.fits)
