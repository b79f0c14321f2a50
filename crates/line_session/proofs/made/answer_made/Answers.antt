use Rattle.std.proofs.Common.{◌≡◌, ℕ, ◌+◌, ◌<◌, List, ◌++◌, Some, ◌∙◌, sym, subst, arith}
use Rattle.step_count.specs.Within.{StepsWithin}
use Rattle.line_session.specs.Pages.{stage_of, IsBeforeOrAfter}
use Rattle.line_session.specs.Session.{next_says, next_writes, after_next, next_cost}
use Rattle.line_session.proofs.Going.{on_err, on_ok}
use Rattle.line_session.proofs.Pouring.{Pours-none}
use Rattle.line_session.proofs.Making.{Answered-made, made_number, made_left, made_left_next, made_within, made_within_next, Ran-made_memory, Ran-made_fault, Ran-made_end}
use Rattle.line_session.proofs.made.answer_made.Goals as goal

-- memory ran out while a line was made
pub returns-then-is_err-clause-ran : goal.returns-then-is_err-clause-ran
returns-then-is_err-clause-ran g c =
    let n = g.R.Table.count c.args.made.now in
    let rows = g.R.Table.text c.args.made.now in
    let below : c.loop-k.k < n = subst (λ (m : ℕ). c.loop-k.k < m) c.len-count.ensures c.loop-k-test.true in
    λ left. Ran-made_memory rows c.loop-k.k c.loop-k.invariant.answered n (omega (arith, below)) left (made_left rows c.loop-k.k c.loop-k.invariant.answered n (omega (arith, below))) (omega arith) (made_within rows c.loop-k.k c.loop-k.invariant.answered n (omega (arith, below)))

pub answer_line-requires : goal.answer_line-requires
answer_line-requires g c =
    omega (arith, made_number (g.R.Table.text c.args.made.now) c.loop-k.k c.loop-k.invariant.answered, c.loop-k-test.true, c.len-count.type_inv)

-- memory ran out while the answer to a line was written to the page
pub returns-then-is_err-2-clause-ran : goal.returns-then-is_err-2-clause-ran
returns-then-is_err-2-clause-ran g c =
    let n = g.R.Table.count c.args.made.now in
    let rows = g.R.Table.text c.args.made.now in
    let below : c.loop-k.k < n = subst (λ (m : ℕ). c.loop-k.k < m) c.len-count.ensures c.loop-k-test.true in
    let is = c.text.ensures ∙ on_ok _ c.make_line.result (sym c.is_err.ensures.value ∙ c.if-is_err.false) c.make_line.ensures in
    let counts = subst (λ (t : List ℕ). StepsWithin c.loop-k.steps c.answer_line.new.steps (next_cost (g.T.Speaker.session c.args.speaker.now) (stage_of c.loop-k.progress c.loop-k.state) (Some t))) is c.answer_line.ensures.counts in
    let state_left = subst (λ (t : List ℕ). IsBeforeOrAfter (next_says (g.T.Speaker.session c.args.speaker.now) (stage_of c.loop-k.progress c.loop-k.state) (Some t)) c.loop-k.state c.answer_line.new.state) is
    (on_err _ c.answer_line.result (sym c.is_err-in-loop-k.ensures.value ∙ c.if-is_err-2.true) c.answer_line.ensures.err) in
    λ left. Ran-made_memory rows c.loop-k.k c.loop-k.invariant.answered n (omega (arith, below)) left (made_left_next rows c.loop-k.k c.loop-k.invariant.answered n below state_left) counts.0 (made_within_next rows c.loop-k.k c.loop-k.invariant.answered n below counts.1)

-- the sink had a fault when the page was written
pub returns-in-Err-clause-ran : goal.returns-in-Err-clause-ran
returns-in-Err-clause-ran g c =
    let n = g.R.Table.count c.args.made.now in
    let rows = g.R.Table.text c.args.made.now in
    let below : c.loop-k.k < n = subst (λ (m : ℕ). c.loop-k.k < m) c.len-count.ensures c.loop-k-test.true in
    let session = g.T.Speaker.session c.args.speaker.now in
    let before = stage_of c.loop-k.progress c.loop-k.state in
    let line = c.answer_line.ensures in
    let is = c.text.ensures ∙ on_ok _ c.make_line.result (sym c.is_err.ensures.value ∙ c.if-is_err.false) c.make_line.ensures in
    let ok = sym c.is_err-in-loop-k.ensures.value ∙ c.if-is_err-2.false in
    let answered = Answered-made rows c.loop-k.k c.loop-k.invariant.answered
    (subst (λ (t : List ℕ). c.answer_line.new.progress.page ≡ c.loop-k.progress.page ++ next_writes session before (Some t)) is (on_ok _ c.answer_line.result ok line.text))
    (subst (λ (t : List ℕ). stage_of c.answer_line.new.progress c.answer_line.new.state ≡ after_next session before (Some t)) is (on_ok _ c.answer_line.result ok line.stage))
    (subst (λ (t : List ℕ). StepsWithin c.loop-k.steps c.answer_line.new.steps (next_cost session before (Some t))) is line.counts)
    (Pours-none (g.K.Sink.held c.loop-k.sink) c.answer_line.new.progress.page) in
    λ left. Ran-made_fault rows (c.loop-k.k + 1) answered n (omega (arith, below)) left c.in-Err.fault c.from.result c.from.ensures c.flush_if_full.ensures.prefix

pub loop-k-preserved : goal.loop-k-preserved
loop-k-preserved g c =
    let rows = g.R.Table.text c.args.made.now in
    let session = g.T.Speaker.session c.args.speaker.now in
    let before = stage_of c.loop-k.progress c.loop-k.state in
    let line = c.answer_line.ensures in
    let is = c.text.ensures ∙ on_ok _ c.make_line.result (sym c.is_err.ensures.value ∙ c.if-is_err.false) c.make_line.ensures in
    let ok = sym c.is_err-in-loop-k.ensures.value ∙ c.if-is_err-2.false in
    record {
      answered = Answered-made rows c.loop-k.k c.loop-k.invariant.answered
          (subst (λ (t : List ℕ). c.answer_line.new.progress.page ≡ c.loop-k.progress.page ++ next_writes session before (Some t)) is (on_ok _ c.answer_line.result ok line.text))
          (subst (λ (t : List ℕ). stage_of c.answer_line.new.progress c.answer_line.new.state ≡ after_next session before (Some t)) is (on_ok _ c.answer_line.result ok line.stage))
          (subst (λ (t : List ℕ). StepsWithin c.loop-k.steps c.answer_line.new.steps (next_cost session before (Some t))) is line.counts)
          c.in_default.ensures.ok;
      sink = c.in_default.ensures.cause.still ∙ c.loop-k.invariant.sink;
    }

-- all lines were answered
pub returns-clause-ran : goal.returns-clause-ran
returns-clause-ran g c =
    let n = g.R.Table.count c.args.made.now in
    let rows = g.R.Table.text c.args.made.now in
    let all : c.loop-k.k ≡ n = omega (arith, c.loop-k-test.false, c.loop-k.auto.k-end, c.len-count.ensures) in
    λ left. Ran-made_end rows c.loop-k.k c.loop-k.invariant.answered n all left c.finish.result c.finish.ensures.finishes c.finish.ensures.counts
