use Rattle.std.proofs.Common.{subst, sym, ap, ◌∙◌}
use Rattle.snapshot_bytes.specs.Reading.{Took, many, test_at, logic_within}
use Rattle.snapshot_bytes.proofs.Loop.{is_continued}
use Rattle.snapshot_bytes.proofs.TestLemmas.{none_within, within_is}
use Rattle.snapshot_bytes.proofs.test.+levels.Goals as goal

pub children-loop-preserved : goal.children-loop-preserved
children-loop-preserved t c =
    rw c.in_ok-push.ensures.ok (is_continued (test_at c.args.levels) c.loop.of c.args.count c.loop.counter c.loop.cursor c.in_ok-child.child c.test.new.cursor
    (many (test_at c.args.levels) c.args.count c.args.cursor.now) c.loop-test.true c.in_ok-child.ensures c.loop.invariant)

pub logic-returns-then-levels-eq0 : goal.logic-returns-then-levels-eq0
logic-returns-then-levels-eq0 t c = ap (λ n. logic_within n c.args.cursor.now) c.if-levels-eq0.true ∙ none_within c.args.cursor.now

pub logic-returns-else-levels-eq0 : goal.logic-returns-else-levels-eq0
logic-returns-else-levels-eq0 t c = subst (λ r. Took c.read_joined.result c.read_joined.new.cursor r) (sym (within_is c.args.levels c.args.cursor.now c.if-levels-eq0.false)) c.read_joined.ensures
