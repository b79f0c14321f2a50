use Rattle.certificate_records.proofs.NoRecords.{no_record}
use Rattle.certificate_records.proofs.law.certificates_are_no_records.Goals as goal

pub returns : goal.returns
returns c = no_record
