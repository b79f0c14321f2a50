use Rattle.run_laws.proofs.Folded.{rows_kept}
use Rattle.run_laws.proofs.law.rows_are_kept.Goals as goal

pub returns : goal.returns
returns c = rows_kept
