use Rattle.std.proofs.Common.{◌≡◌, ℕ, false, List, ◌++◌, IfSome, refl, sym, ◌∙◌, subst}
use Rattle.cpe_io.specs.Lines.{has_newline}
use Rattle.cpe_io.specs.Reading.{GivesLine}
use Rattle.cpe_io.specs.Shown.{lent}
use Rattle.cpe_io.specs.Causes.{Rose}
use Rattle.step_count.specs.Within.{StepsWithin}
use Rattle.line_session.specs.Pages.{stage_of, IsBeforeOrAfter}
use Rattle.line_session.specs.Session.{next_says, next_writes, after_next, next_cost}
use Rattle.line_session.proofs.Going.{Going-start, Going-flushed, Ran-start, Ran-sink_fault, Ran-memory, Ran-fault, Ran-finish, number_is_small, closer_said, Going-said, lent_none, on_err, on_ok}
use Rattle.line_session.proofs.Runs.{Ran-completes}
use Rattle.line_session.proofs.session.answer_lines.Goals as goal

-- the run did nothing, because memory for the lines ran out at its beginning
pub returns-in_default-clause-ran : goal.returns-in_default-clause-ran
returns-in_default-clause-ran g c =
    Ran-start (g.S.Source.left c.args.source.now) (g.K.Sink.held c.args.sink.now) (g.T.Speaker.session c.args.speaker.now) c.args.state.now c.args.steps.now

pub loop-fault-init : goal.loop-fault-init
loop-fault-init g c = record {
  going = Going-start (g.S.Source.left c.args.source.now) (g.K.Sink.held c.args.sink.now) (g.T.Speaker.session c.args.speaker.now) c.args.state.now c.args.steps.now _ _ _ _ c.in-Ok.ensures c.new-progress.ensures.page c.new-progress.ensures.number c.new-progress.ensures.refused;
  source = refl;
  sink = refl;
}

-- the page was written to the sink, and the sink had a fault
pub returns-in-Err-clause-ran : goal.returns-in-Err-clause-ran
returns-in-Err-clause-ran g c = Ran-sink_fault c.loop-fault.invariant.going c.in-Err.fault c.from.ensures c.flush_if_due.ensures.prefix

pub answer_line-requires : goal.answer_line-requires
answer_line-requires g c = number_is_small (Going-flushed c.loop-fault.invariant.going c.in_default-flush_if_due.ensures.ok)

-- the input was read to its end
pub returns-then-is_end-clause-ran : goal.returns-then-is_end-clause-ran
returns-then-is_end-clause-ran g c =
    let going = Going-flushed c.loop-fault.invariant.going c.in_default-flush_if_due.ensures.ok in
    let takes = c.in-Ok-find_line.ensures.finds.takes in
    let none = lent_none (lent c.in-Ok-find_line.found c.find_line.new.self.text) (sym (c.is_end.ensures c.find_line.new.self.text) ∙ c.if-is_end.true) in
    let gives = subst (GivesLine c.loop-fault.reader c.find_line.new.self takes.bytes) none takes.said.0 in
    Ran-finish going takes c.find_line.ensures.finds.end c.find_line.ensures.finds.below c.finish.result gives (c.find_line.ensures.finds.end going.end gives.1.ended) c.finish.ensures.finishes c.finish.ensures.counts

-- the reader returned a fault
pub returns-in-Err-find_line-clause-ran : goal.returns-in-Err-find_line-clause-ran
returns-in-Err-find_line-clause-ran g c =
    let going = Going-flushed c.loop-fault.invariant.going c.in_default-flush_if_due.ensures.ok in
    let takes = c.in-Err-find_line.ensures.finds.takes in
    let flushed = λ (none : has_newline c.loop-fault.reader.kept ≡ false). c.in_default-flush_if_due.ensures.due (c.holds_line.ensures ∙ none) in
    Ran-fault going takes c.find_line.ensures.finds.end c.find_line.ensures.finds.below c.in-Err-find_line.fault c.from-in-Err-find_line.ensures flushed (takes.said.1 going.fault)

pub returns-then-is_err-clause-ran : goal.returns-then-is_err-clause-ran
returns-then-is_err-clause-ran g c =
    let going = Going-flushed c.loop-fault.invariant.going c.in_default-flush_if_due.ensures.ok in
    let takes = c.in-Ok-find_line.ensures.finds.takes in
    let some = sym (c.is_end.ensures c.find_line.new.self.text) ∙ c.if-is_end.false in
    let found = c.in-Ok-find_line.found in
    let counts = subst (λ (t : List ℕ). IfSome (lent found t) (λ line. StepsWithin c.loop-fault.steps c.answer_line.new.steps (next_cost (g.T.Speaker.session c.args.speaker.now) (stage_of c.loop-fault.progress c.loop-fault.state) line)))
    c.text.ensures.text c.answer_line.ensures.counts in
    let left = subst (λ (t : List ℕ). IfSome (lent found t) (λ line. IsBeforeOrAfter (next_says (g.T.Speaker.session c.args.speaker.now) (stage_of c.loop-fault.progress c.loop-fault.state) line) c.loop-fault.state c.answer_line.new.state))
    c.text.ensures.text (on_err _ c.answer_line.result (sym c.is_err.ensures.value ∙ c.if-is_err.true) c.answer_line.ensures.err) in
    Ran-memory going takes c.find_line.ensures.finds.end c.find_line.ensures.finds.below (lent found c.find_line.new.self.text) takes.said.0 some left counts

pub loop-fault-smaller : goal.loop-fault-smaller
loop-fault-smaller g c =
    let going = Going-flushed c.loop-fault.invariant.going c.in_default-flush_if_due.ensures.ok in
    let takes = c.in-Ok-find_line.ensures.finds.takes in
    let some = sym (c.is_end.ensures c.find_line.new.self.text) ∙ c.if-is_end.false in
    closer_said going takes c.find_line.ensures.finds.end c.find_line.ensures.finds.below (lent c.in-Ok-find_line.found c.find_line.new.self.text) takes.said.0 some

-- one more line was answered
pub loop-fault-preserved : goal.loop-fault-preserved
loop-fault-preserved g c =
    let going = Going-flushed c.loop-fault.invariant.going c.in_default-flush_if_due.ensures.ok in
    let takes = c.in-Ok-find_line.ensures.finds.takes in
    let some = sym (c.is_end.ensures c.find_line.new.self.text) ∙ c.if-is_end.false in
    let ok = sym c.is_err.ensures.value ∙ c.if-is_err.false in
    let found = c.in-Ok-find_line.found in
    let session = g.T.Speaker.session c.args.speaker.now in
    let before = stage_of c.loop-fault.progress c.loop-fault.state in
    let written = subst (λ (t : List ℕ). IfSome (lent found t) (λ line. c.answer_line.new.progress.page ≡ c.flush_if_due.new.self ++ next_writes session before line)) c.text.ensures.text (on_ok _ c.answer_line.result ok c.answer_line.ensures.text) in
    let present = subst (λ (t : List ℕ). IfSome (lent found t) (λ line. stage_of c.answer_line.new.progress c.answer_line.new.state ≡ after_next session before line)) c.text.ensures.text (on_ok _ c.answer_line.result ok c.answer_line.ensures.stage) in
    let counts = subst (λ (t : List ℕ). IfSome (lent found t) (λ line. StepsWithin c.loop-fault.steps c.answer_line.new.steps (next_cost session before line))) c.text.ensures.text c.answer_line.ensures.counts in
    record {
      going = Going-said going takes c.find_line.ensures.finds.end c.find_line.ensures.finds.below (lent found c.find_line.new.self.text) takes.said.0 takes.said.1 some written present counts;
      source = c.in-Ok-find_line.ensures.finds.still (λ read. absurd cc) ∙ c.loop-fault.invariant.source;
      sink = c.in_default-flush_if_due.ensures.cause.still ∙ c.loop-fault.invariant.sink;
    }

pub returns-then-is_end-clause-complete : goal.returns-then-is_end-clause-complete
returns-then-is_end-clause-complete g c =
    let same = c.in_default-flush_if_due.ensures.cause.still ∙ c.loop-fault.invariant.sink in
    λ read write. Ran-completes c.finish.result (returns-then-is_end-clause-ran g c) c.finish.ensures.read
    (λ is. write (subst (λ (before : ℕ). Rose before (g.K.Sink.faults c.finish.new.sink)) same (c.finish.ensures.sink.cause is)))
