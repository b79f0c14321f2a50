use Rattle.cpe_records.proofs.Prints.{prints_text}
use Rattle.cpe_records.proofs.json_law.prints_are_texts.Goals as goal

pub returns : goal.returns
returns c = prints_text
