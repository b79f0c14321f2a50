use Rattle.std.proofs.Common.{◌≡◌, ◌+◌, ◌-◌, length}
use Rattle.line_session.specs.Pages.{stage_of}
use Rattle.line_session.proofs.Going.{Going}
use Rattle.line_session.proofs.session.answer_lines.Given as goal

abbrev pub invariant-loop-fault : goal.invariant-loop-fault
invariant-loop-fault g l = record {
  going : Going (g.S.Source.left l.fn.source) (g.S.Source.left l.source) (g.K.Sink.held l.fn.sink) (g.K.Sink.held l.sink) (g.T.Speaker.session l.speaker) l.fn.state l.fn.steps l.steps l.reader l.progress.page (stage_of l.progress l.state);
  source : g.S.Source.faults l.source ≡ g.S.Source.faults l.fn.source;
  sink : g.K.Sink.faults l.sink ≡ g.K.Sink.faults l.fn.sink;
}

abbrev pub decreases-loop-fault : goal.decreases-loop-fault
decreases-loop-fault g l = (l.reader.budget - l.reader.taken) + length l.reader.kept
