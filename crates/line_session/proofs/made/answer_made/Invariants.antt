use Rattle.std.proofs.Common.{◌≡◌}
use Rattle.line_session.specs.Pages.{stage_of}
use Rattle.line_session.specs.Table.{made_lines}
use Rattle.line_session.proofs.Answered.{Answered}
use Rattle.line_session.proofs.made.answer_made.Given as goal

abbrev pub invariant-loop-k : goal.invariant-loop-k
invariant-loop-k g l = record {
  answered : Answered (g.K.Sink.held l.fn.sink) (g.K.Sink.held l.sink) (g.T.Speaker.session l.speaker) l.fn.state l.fn.steps l.steps (made_lines (g.R.Table.text l.made) l.k) l.progress.page (stage_of l.progress l.state);
  sink : g.K.Sink.faults l.sink ≡ g.K.Sink.faults l.fn.sink;
}
