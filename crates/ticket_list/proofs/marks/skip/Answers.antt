use Rattle.std.proofs.Common.{rules, ◌≡◌, ◌+◌, ◌<◌, ◌/◌, ◌^◌, sym, subst}
use Rattle.std.specs.Prelude.{length}
use Rattle.ticket_list.specs.Rising.{IsRising}
use Rattle.ticket_list.specs.Slots.{skipped}
use Rattle.ticket_list.proofs.MarkLemmas.{removed_before, removed_behind}
use Rattle.ticket_list.proofs.marks.skip.Goals as goal

pub loop-rest-preserved-then-mark_at-slot : goal.loop-rest-preserved-then-mark_at-slot
loop-rest-preserved-then-mark_at-slot c =
    let h = c.loop-rest.invariant in
    let rest = c.loop-rest.rest.now in
    let slot = c.loop-rest.slot in
    let found = skipped c.args.place c.args.marks.now in
    let left = removed_behind slot rest found (length rest / 2) c.mark_at.result (record { rising = h.0; few = h.1; same = h.2 }) (search rules) c.mark_at.ensures c.if-mark_at-slot.true in
    subst (λ u. IsRising u × (slot + (length rest / 2 + 1) + length u < 2 ^ 64) × (skipped (slot + (length rest / 2 + 1)) u ≡ found))
    (sym c.marks_behind-rest.ensures) (left.rising, left.few, left.same)

pub loop-rest-preserved : goal.loop-rest-preserved
loop-rest-preserved c =
    let h = c.loop-rest.invariant in
    let rest = c.loop-rest.rest.now in
    let slot = c.loop-rest.slot in
    let found = skipped c.args.place c.args.marks.now in
    let left = removed_before slot rest found (length rest / 2) c.mark_at.result (record { rising = h.0; few = h.1; same = h.2 }) (search rules) c.mark_at.ensures c.if-mark_at-slot.false in
    subst (λ u. IsRising u × (slot + length u < 2 ^ 64) × (skipped slot u ≡ found)) (sym c.marks_before-rest.ensures) (left.rising, left.few, left.same)
