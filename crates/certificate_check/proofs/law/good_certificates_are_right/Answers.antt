use Rattle.certificate_check.proofs.Right.{good_are_right}
use Rattle.certificate_check.proofs.law.good_certificates_are_right.Goals as goal

pub returns : goal.returns
returns c = good_are_right
