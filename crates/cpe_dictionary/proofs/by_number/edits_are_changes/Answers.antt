use Rattle.cpe_dictionary.proofs.Asked.{known_law, changes_law, stay_law, width_after_law}
use Rattle.cpe_dictionary.proofs.by_number.edits_are_changes.Goals as goal

pub returns-clause-known : goal.returns-clause-known
returns-clause-known c = known_law

pub returns-clause-changes : goal.returns-clause-changes
returns-clause-changes c = changes_law c.faults_by_number.ensures.repeats c.faults_by_number.ensures.different c.edits_by_number.ensures.numbers

pub returns-clause-different : goal.returns-clause-different
returns-clause-different c = stay_law

pub returns-clause-width : goal.returns-clause-width
returns-clause-width c = width_after_law c.faults_by_number.ensures.width c.changes_by_number.ensures.changes
