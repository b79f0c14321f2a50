use Rattle.std.proofs.Common.{◌≢◌, ◌≤◌, ◌<◌, ◌∷◌, ◌++◌, [], ℕ, Some, slice_get, sym, ap, subst, ◌∙◌}
use Rattle.std.specs.Prelude.{length, vec_capacity}
use Rattle.names_in_order.specs.Marked.{numbers_in}
use Rattle.names_in_order.specs.Room.{NumberList}
use Rattle.names_in_order.proofs.ChangeLemmas.{none_any}
use Rattle.names_in_order.proofs.RoomLemmas.{spare_few, spare_room}
use Rattle.names_in_order.proofs.marked.MarkedNumbersPushNumber.push.Goals as goal

pub append_slot-requires-clause-fresh : goal.append_slot-requires-clause-fresh
append_slot-requires-clause-fresh c =
    none_any (numbers_in c.self.inside.slots.items) c.args.id (subst (λ (l : NumberList). (k : ℕ) → slice_get l.numbers k ≢ Some c.args.id) (sym c.self.view_is) c.requires.fresh)

pub append_slot-requires-clause-known : goal.append_slot-requires-clause-known
append_slot-requires-clause-known c = subst (λ (l : NumberList). c.args.id.0 < l.reach) (sym c.self.view_is) c.requires.room.reach

pub append_slot-requires-clause-room : goal.append_slot-requires-clause-room
append_slot-requires-clause-room c =
    let slots = c.self.inside.slots in
    spare_room (vec_capacity slots) (length slots.items) (subst (λ (l : NumberList). 1 ≤ l.spare) (sym c.self.view_is) c.requires.room.spare)

pub append_slot-requires-clause-few : goal.append_slot-requires-clause-few
append_slot-requires-clause-few c =
    let slots = c.self.inside.slots in
    spare_few (vec_capacity slots) (length slots.items) (subst (λ (l : NumberList). 1 ≤ l.spare) (sym c.self.view_is) c.requires.room.spare)

pub returns : goal.returns
returns c = record { numbers = c.append_slot.ensures.numbers ∙ ap (λ (l : NumberList). l.numbers ++ c.args.id ∷ []) c.self.view_is }
