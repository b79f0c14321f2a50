use Rattle.cpe_uri.proofs.EitherBinding.{any_reads}
use Rattle.cpe_uri.proofs.unbind.unbind_any.Goals as goal

pub returns-clause-read : goal.returns-clause-read
returns-clause-read c = any_reads c.read_either.result c.args.text.now c.read_either.ensures.found c.read_either.ensures.refused
