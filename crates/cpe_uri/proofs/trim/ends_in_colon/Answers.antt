use Rattle.cpe_uri.proofs.Trims.{last_is}
use Rattle.cpe_uri.proofs.trim.ends_in_colon.Goals as goal

pub returns-then-end-gt0 : goal.returns-then-end-gt0
returns-then-end-gt0 c = last_is c.args.text.now c.args.end c.if-end-gt0.true c.requires
