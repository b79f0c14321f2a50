use Rattle.std.proofs.lemmas.Result.{IfOk-weaker}
use Rattle.cpe_command.proofs.CheckLemmas.{checked_is}
use Rattle.cpe_command.proofs.certificates.check.Goals as goal

pub returns : goal.returns
returns c =
    IfOk-weaker c.check_certificate.result _ _ (λ said h. checked_is c.args.engine.now c.lawful.ensures c.args.certificate.now said h) c.check_certificate.ensures
