use Rattle.cpe_dictionary.proofs.Answered.{chains_law, ends_law}
use Rattle.cpe_dictionary.proofs.by_number.answers_by_number.Goals as goal

pub returns-clause-chains : goal.returns-clause-chains
returns-clause-chains c = chains_law c.chains_by_number.ensures.chains c.entries_are_numbered.ensures.numbered

pub returns-clause-ends : goal.returns-clause-ends
returns-clause-ends c = ends_law c.chains_by_number.ensures.ends c.entries_are_numbered.ensures.numbered c.entries_are_numbered.ensures.marked
