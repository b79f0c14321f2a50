use Rattle.std.proofs.Common.{subst}
use Rattle.line_session.specs.cpe_io.Lines.{lines}
use Rattle.name_index.specs.step_count.Within.{StepsWithin}
use Rattle.line_session.specs.Ran.{Ran, Completes}
use Rattle.line_session.specs.Session.{total_cost}
use Rattle.line_session.specs.Task.{task}
use Rattle.advise_ranges.specs.Rows.{AdviceRows}
use Rattle.advise_ranges.specs.Records.{advice_session}
use Rattle.advise_ranges.proofs.run.advise.Goals as goal

-- the run begins without rows
pub returns-clause-ran : goal.returns-clause-ran
returns-clause-ran g c =
    subst (λ (first : AdviceRows). Ran (g.S.Source.left c.args.source.now) (g.S.Source.left c.answer_from.new.source) (g.K.Sink.held c.args.sink.now) (g.K.Sink.held c.answer_from.new.sink) (task advice_session first) (λ taken status. StepsWithin c.args.steps.now c.answer_from.new.steps (total_cost advice_session first (lines taken))) c.answer_from.result)
    c.new.ensures c.answer_from.ensures.ran

pub returns-clause-complete : goal.returns-clause-complete
returns-clause-complete g c = λ still held.
    subst (λ (first : AdviceRows). Completes (g.S.Source.left c.args.source.now) (task advice_session first) c.answer_from.result) c.new.ensures (c.answer_from.ensures.complete still held)
