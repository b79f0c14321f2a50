use Rattle.cpe_dictionary.proofs.Moving.{changes_law, additions_law}
use Rattle.cpe_dictionary.proofs.by_number.changes_by_number.Goals as goal

pub returns-clause-changes : goal.returns-clause-changes
returns-clause-changes c = changes_law

pub returns-clause-additions : goal.returns-clause-additions
returns-clause-additions c = additions_law
