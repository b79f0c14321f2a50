use Rattle.std.proofs.Common.{◌∙◌}
use Rattle.cpe_rows.specs.Truth.{same_truth}
use Rattle.certificate_check.specs.Good.{deciding}
use Rattle.certificate_check.proofs.Given.{given_any}
use Rattle.certificate_check.proofs.check.is_decided.Goals as goal

pub returns : goal.returns
returns c = c.some_decides.ensures ∙ given_any (same_truth (deciding c.args.operator)) c.args.given.now
