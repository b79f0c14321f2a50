use Rattle.line_session.proofs.Runs.{Ran-besides}
use Rattle.line_session.proofs.session.answer_from.Goals as goal

-- the run drops its final state, and the limit of its steps is that of `answer_lines`
pub returns-clause-ran : goal.returns-clause-ran
returns-clause-ran g c = Ran-besides c.answer_lines.ensures.ran (λ taken reached. (reached.later, reached.within))
