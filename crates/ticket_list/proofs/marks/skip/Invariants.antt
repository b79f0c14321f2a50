use Rattle.std.proofs.Common.{◌≡◌, ◌+◌, ◌<◌, ◌^◌, length}
use Rattle.ticket_list.specs.Rising.{IsRising}
use Rattle.ticket_list.specs.Slots.{skipped}
use Rattle.ticket_list.proofs.marks.skip.Given as goal

abbrev pub invariant-loop-rest : goal.invariant-loop-rest
invariant-loop-rest l = IsRising l.rest × (l.slot + length l.rest < 2 ^ 64) × (skipped l.slot l.rest ≡ skipped l.initial.slot l.initial.rest)

abbrev pub decreases-loop-rest : goal.decreases-loop-rest
decreases-loop-rest l = length l.rest
