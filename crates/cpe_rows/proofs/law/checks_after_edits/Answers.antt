use Rattle.cpe_rows.proofs.KeptChecks.{set_truth, dropped_truth}
use Rattle.cpe_rows.proofs.law.checks_after_edits.Goals as goal

pub returns-clause-set : goal.returns-clause-set
returns-clause-set c rows k key t = set_truth k key t rows.checks

pub returns-clause-dropped : goal.returns-clause-dropped
returns-clause-dropped c rows k key differ = dropped_truth k key rows.checks differ
