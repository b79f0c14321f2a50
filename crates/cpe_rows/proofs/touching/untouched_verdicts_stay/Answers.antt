use Rattle.std.proofs.Common.{sym}
use Rattle.cpe_rows.proofs.Unrefused.{unrefused}
use Rattle.cpe_rows.proofs.Untouched.{same_facts, same_checks, same_verdict}
use Rattle.cpe_rows.proofs.touching.untouched_verdicts_stay.Goals as goal

pub returns-clause-left : goal.returns-clause-left
returns-clause-left c rows next e h = sym (unrefused h).1

pub returns-clause-facts : goal.returns-clause-facts
returns-clause-facts c rows next e mode fact h = same_facts rows next e h mode fact

pub returns-clause-checks : goal.returns-clause-checks
returns-clause-checks c rows next e key h = same_checks rows next e h key

pub returns-clause-verdicts : goal.returns-clause-verdicts
returns-clause-verdicts c rows next e s h = same_verdict rows next e h s
