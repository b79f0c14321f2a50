use Rattle.std.proofs.Common.{◌<◌, ◌≤◌, ◌+◌, ℕ, length, sym, subst}
use Rattle.cpe_engine.proofs.SlotLemmas.{IsNth, nth_here, nth_next, nth_over, nth_none}
use Rattle.cpe_engine.proofs.slots.nth_item.Goals as goal
use Rattle.cpe_engine.proofs.slots.nth_item.Goals.{in-Some+else-left-eq0, in_default}

pub returns-then-left-eq0 : goal.returns-then-left-eq0
returns-then-left-eq0 c =
    let i : ℕ = c.loop-slot.slot in
    let less : i < length c.args.slots.now = subst (λ (m : ℕ). i < m) c.len-slot-end.ensures c.loop-slot-test.true in
    sym (nth_here c.args.slots.now c.args.k i c.loop-slot.left c.in-Some.item.now c.loop-slot.invariant less (sym c.in-Some.ensures)
    c.if-left-eq0.true)

pub loop-slot-preserved : goal.loop-slot-preserved
loop-slot-preserved c =
    let i : ℕ = c.loop-slot.slot in
    let less : i < length c.args.slots.now = subst (λ (m : ℕ). i < m) c.len-slot-end.ensures c.loop-slot-test.true in
    elim c.match-at.branch [
      | in-Some+else-left-eq0 w ↦
          subst (λ (m : ℕ). IsNth c.args.slots.now c.args.k (i + 1) m) (sym w.left-is)
          (nth_next c.args.slots.now c.args.k i c.loop-slot.left w.in-Some.item.now c.loop-slot.invariant less (sym w.in-Some.ensures)
          w.if-left-eq0.false)
      | in_default w ↦
          subst (λ (m : ℕ). IsNth c.args.slots.now c.args.k (i + 1) m) (sym w.left-is)
          (nth_over c.args.slots.now c.args.k i c.loop-slot.left c.loop-slot.invariant less (sym w.in_default.ensures))
    ]

pub returns : goal.returns
returns c =
    let i : ℕ = c.loop-slot.slot in
    sym (nth_none c.args.slots.now c.args.k i c.loop-slot.left c.loop-slot.invariant (subst (λ (m : ℕ). m ≤ i) c.len-slot-end.ensures
    c.loop-slot-test.false))
