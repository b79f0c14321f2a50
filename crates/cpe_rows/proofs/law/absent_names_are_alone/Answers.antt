use Rattle.cpe_rows.proofs.Added.{no_chain, own_end}
use Rattle.cpe_rows.proofs.law.absent_names_are_alone.Goals as goal

pub returns-clause-chains : goal.returns-clause-chains
returns-clause-chains c = no_chain

pub returns-clause-ends : goal.returns-clause-ends
returns-clause-ends c = own_end
