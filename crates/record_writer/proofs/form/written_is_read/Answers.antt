use Rattle.record_writer.proofs.RecordsRead.{record_read}
use Rattle.record_writer.proofs.form.written_is_read.Goals as goal

pub returns : goal.returns
returns c r h k u = record_read c.read_component_is.ensures.named r h k u
