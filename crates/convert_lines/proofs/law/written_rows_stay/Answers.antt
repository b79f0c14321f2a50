use Rattle.convert_lines.proofs.Kept.{written_keeps}
use Rattle.convert_lines.proofs.law.written_rows_stay.Goals as goal

pub returns : goal.returns
returns c = written_keeps c.written_is_read.ensures
