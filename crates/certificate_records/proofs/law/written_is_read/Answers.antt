use Rattle.certificate_records.proofs.CertificatesRead.{certificate_read}
use Rattle.certificate_records.proofs.law.written_is_read.Goals as goal

pub returns : goal.returns
returns c p names h u = certificate_read c.read_any_is.ensures.named p names h u
