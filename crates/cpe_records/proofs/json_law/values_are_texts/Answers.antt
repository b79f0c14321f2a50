use Rattle.cpe_records.proofs.Values.{values_text}
use Rattle.cpe_records.proofs.json_law.values_are_texts.Goals as goal

pub returns : goal.returns
returns c = values_text
