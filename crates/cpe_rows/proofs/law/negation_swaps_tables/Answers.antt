use Rattle.cpe_rows.proofs.Tables.{not_and, not_or}
use Rattle.cpe_rows.proofs.law.negation_swaps_tables.Goals as goal

pub returns-clause-and_all : goal.returns-clause-and_all
returns-clause-and_all c = not_and

pub returns-clause-or_all : goal.returns-clause-or_all
returns-clause-or_all c = not_or
