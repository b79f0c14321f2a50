use Rattle.std.proofs.lemmas.Result.{on_ok_weaker}
use Rattle.cpe_command.proofs.CertificateRows.{certificates-poured, certificates-begun}
use Rattle.cpe_command.proofs.certificates.pour_certificates.Goals as goal

pub returns-clause-ok : goal.returns-clause-ok
returns-clause-ok g c =
    on_ok_weaker c.pour_table.result (certificates-poured c.args.engine.now _ _ c.args.page.now c.pour_table.new.page) c.pour_table.ensures.ok

pub returns-clause-prefix : goal.returns-clause-prefix
returns-clause-prefix g c = certificates-begun c.args.engine.now _ _ c.args.page.now c.pour_table.ensures.prefix
