use Rattle.cpe_rows.proofs.Accepted.{next_ends, next_chain}
use Rattle.cpe_rows.proofs.law.entries_are_independent.Goals as goal

pub returns-clause-ends : goal.returns-clause-ends
returns-clause-ends c rows next e n h = next_ends rows next e h n

pub returns-clause-chains : goal.returns-clause-chains
returns-clause-chains c rows next e n h other = next_chain rows next e h n other
