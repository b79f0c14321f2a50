use Rattle.cpe_rows.proofs.EntryChanges.{next_verdict, no_changes}
use Rattle.cpe_rows.proofs.touching.entries_change_nothing.Goals as goal

pub returns-clause-verdicts : goal.returns-clause-verdicts
returns-clause-verdicts c rows next e s h = next_verdict rows next e h s

pub returns-clause-changes : goal.returns-clause-changes
returns-clause-changes c rows next e h = no_changes rows next e h
