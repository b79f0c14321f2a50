use Rattle.std.proofs.Common.{List, ℕ, sym, subst}
use Rattle.names_in_order.specs.Room.{KeepsPlaces}
use Rattle.names_in_order.proofs.RoomLemmas.{longer}
use Rattle.names_in_order.proofs.free_place.reach_number.Goals as goal

pub loop-id-init : goal.loop-id-init
loop-id-init c = λ k place at. at

pub loop-id-preserved : goal.loop-id-preserved
loop-id-preserved c = subst (λ (ps : List ℕ). KeepsPlaces c.args.places.now.items ps) (sym c.in_ok-push.ensures.items) (longer c.args.places.now.items c.loop-id.places.items 0 c.loop-id.invariant)
