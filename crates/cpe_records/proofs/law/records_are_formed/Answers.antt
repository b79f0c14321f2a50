use Rattle.cpe_records.proofs.RecordReads.{line_read}
use Rattle.cpe_records.proofs.law.records_are_formed.Goals as goal

pub returns : goal.returns
returns c = line_read
