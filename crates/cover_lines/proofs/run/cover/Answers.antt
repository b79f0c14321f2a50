use Rattle.std.proofs.Common.{List, subst}
use Rattle.line_session.specs.cpe_io.Lines.{lines}
use Rattle.cpe_rows.specs.cpe_name.Eleven.{Values}
use Rattle.name_index.specs.step_count.Within.{StepsWithin}
use Rattle.line_session.specs.Ran.{Ran, Completes}
use Rattle.line_session.specs.Session.{total_cost}
use Rattle.line_session.specs.Task.{task}
use Rattle.cover_lines.specs.Lines.{cover_session}
use Rattle.cover_lines.proofs.run.cover.Goals as goal

-- the run begins without a name
pub returns-clause-ran : goal.returns-clause-ran
returns-clause-ran g c =
    subst (λ (first : List Values). Ran (g.S.Source.left c.args.source.now) (g.S.Source.left c.answer_from.new.source) (g.K.Sink.held c.args.sink.now) (g.K.Sink.held c.answer_from.new.sink) (task cover_session first) (λ taken status. StepsWithin c.args.steps.now c.answer_from.new.steps (total_cost cover_session first (lines taken))) c.answer_from.result)
    c.new.ensures c.answer_from.ensures.ran

pub returns-clause-complete : goal.returns-clause-complete
returns-clause-complete g c = λ still held.
    subst (λ (first : List Values). Completes (g.S.Source.left c.args.source.now) (task cover_session first) c.answer_from.result) c.new.ensures (c.answer_from.ensures.complete still held)
