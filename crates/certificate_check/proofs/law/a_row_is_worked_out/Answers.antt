use Rattle.certificate_check.proofs.Worked.{tested-is}
use Rattle.certificate_check.proofs.law.a_row_is_worked_out.Goals as goal

pub returns : goal.returns
returns c = tested-is
