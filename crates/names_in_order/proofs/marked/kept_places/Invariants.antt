use Rattle.std.proofs.Common.{◌≡◌, ◌++◌, drop}
use Rattle.names_in_order.specs.Marked.{places_of}
use Rattle.names_in_order.proofs.marked.kept_places.Given as goal

abbrev pub invariant-loop-id : goal.invariant-loop-id
invariant-loop-id l = l.kept.items ++ places_of l.places (drop l.id-index l.ids) ≡ places_of l.places l.ids
