use Rattle.std.proofs.Common.{◌≡◌, ◌++◌, drop}
use Rattle.names_in_order.specs.Marked.{standing_at}
use Rattle.names_in_order.proofs.marked.numbers_at.Given as goal

abbrev pub invariant-loop-place : goal.invariant-loop-place
invariant-loop-place l = l.ids.items ++ standing_at l.slots (drop l.place-index l.places) ≡ standing_at l.slots l.places
