use Rattle.std.proofs.Common.{◌<◌, ◌≤◌, ℕ, length, sym, subst, ◌∙◌}
use Rattle.certificate_search.specs.certificate_check.Relates.{related}
use Rattle.cpe_engine.proofs.SlotLemmas.{left_here, left_next, left_over, left_none}
use Rattle.cpe_engine.proofs.slots.first_related.Goals as goal
use Rattle.cpe_engine.proofs.slots.first_related.Goals.{in-Some+else-holds, in_default}

pub returns-then-holds : goal.returns-then-holds
returns-then-holds c =
    let i : ℕ = c.loop-slot.slot in
    let less : i < length c.args.slots.now = subst (λ (m : ℕ). i < m) c.len-slot-end.ensures c.loop-slot-test.true in
    sym (left_here (related c.args.relates c.args.name.now) c.args.slots.now i c.in-Some.item.now c.loop-slot.invariant less (sym c.in-Some.ensures)
    (sym c.holds.ensures ∙ c.if-holds.true))

pub loop-slot-preserved : goal.loop-slot-preserved
loop-slot-preserved c =
    let i : ℕ = c.loop-slot.slot in
    let less : i < length c.args.slots.now = subst (λ (m : ℕ). i < m) c.len-slot-end.ensures c.loop-slot-test.true in
    elim c.match-at.branch [
      | in-Some+else-holds w ↦
          left_next (related c.args.relates c.args.name.now) c.args.slots.now i w.in-Some.item.now c.loop-slot.invariant less (sym w.in-Some.ensures)
          (sym w.holds.ensures ∙ w.if-holds.false)
      | in_default w ↦ left_over (related c.args.relates c.args.name.now) c.args.slots.now i c.loop-slot.invariant less (sym w.in_default.ensures)
    ]

pub returns : goal.returns
returns c =
    let i : ℕ = c.loop-slot.slot in
    sym (left_none (related c.args.relates c.args.name.now) c.args.slots.now i c.loop-slot.invariant (subst (λ (m : ℕ). m ≤ i) c.len-slot-end.ensures
    c.loop-slot-test.false))
