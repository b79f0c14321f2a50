use Rattle.certificate_search.proofs.LentSteps.{IsLentSearch, lent_work}
use Rattle.certificate_search.proofs.paths.path.Given as goal

abbrev pub invariant-loop-step : goal.invariant-loop-step
invariant-loop-step g l = IsLentSearch (g.R.PlainRows.rows l.rows) l.to l.from l.steps.items l.seen

abbrev pub decreases-loop-step : goal.decreases-loop-step
decreases-loop-step g l = lent_work (g.R.PlainRows.rows l.rows) l.to l.from l.steps.items l.seen
