use Rattle.std.proofs.Common.{List, ℕ, subst}
use Rattle.cpe_io.specs.Writes.{AppendsPrefix}
use Rattle.line_session.proofs.Finishing.{Finishes-poured_fault}
use Rattle.line_session.proofs.session.finish.Goals as goal

-- a prefix of the text was written to the sink, and the next write failed
pub returns-in-Err-write_all-clause-finishes : goal.returns-in-Err-write_all-clause-finishes
returns-in-Err-write_all-clause-finishes g c =
    let prefix = subst (λ (t : List ℕ). AppendsPrefix (g.K.Sink.held c.say_end.new.sink) (g.K.Sink.held c.write_all.new.sink) t) c.text.ensures c.write_all.ensures.prefix in
    Finishes-poured_fault (g.K.Sink.held c.args.sink.now) (g.K.Sink.held c.say_end.new.sink) (g.K.Sink.held c.write_all.new.sink)
    c.args.progress.now.page c.say_end.new.page ((g.T.Speaker.session c.args.speaker.now).ends c.args.state.now) c.args.progress.now.refused c.in-Err-write_all.fault c.from-in-Err-write_all.result c.from-in-Err-write_all.ensures c.in_default.ensures.ok prefix
