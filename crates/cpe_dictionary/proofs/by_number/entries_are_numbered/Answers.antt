use Rattle.cpe_dictionary.proofs.Fitting.{nodes_numbered, nodes_marked}
use Rattle.cpe_dictionary.proofs.by_number.entries_are_numbered.Goals as goal

pub returns-clause-numbered : goal.returns-clause-numbered
returns-clause-numbered c entries different = nodes_numbered c.names_are_equal.ensures.same entries different

pub returns-clause-marked : goal.returns-clause-marked
returns-clause-marked c = nodes_marked
