use Rattle.cpe_rows.proofs.Accepted.{at_start}
use Rattle.cpe_rows.proofs.KeptLawful.{stays_lawful}
use Rattle.cpe_rows.proofs.law.rows_stay_lawful.Goals as goal

pub returns-clause-start : goal.returns-clause-start
returns-clause-start c = at_start

pub returns-clause-kept : goal.returns-clause-kept
returns-clause-kept c = stays_lawful
