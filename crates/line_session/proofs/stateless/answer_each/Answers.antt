use Rattle.line_session.specs.Session.{printed}
use Rattle.line_session.proofs.Runs.{Reached-stateless}
use Rattle.line_session.proofs.stateless.answer_each.Goals as goal

pub returns-clause-steps : goal.returns-clause-steps
returns-clause-steps g c =
    Reached-stateless (λ text. printed g.T.Reason.Reason.text (g.T.Stateless.says c.args.each.now.0 text)) c.answer_lines.ensures.ran.taken c.answer_lines.ensures.ran.besides
