use Rattle.cpe_dictionary.proofs.Edited.{writes_law, names_law, edges_law}
use Rattle.cpe_dictionary.proofs.by_number.edits_by_number.Goals as goal

pub returns : goal.returns
returns c = record { writes = writes_law; numbers = names_law; edges = edges_law }
