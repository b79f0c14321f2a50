use Rattle.run_laws.proofs.Converted.{converted_is_same}
use Rattle.run_laws.proofs.law.converted_is_same.Goals as goal

pub returns : goal.returns
returns c = converted_is_same c.prints_are_texts.ensures c.written_rows_stay.ensures
