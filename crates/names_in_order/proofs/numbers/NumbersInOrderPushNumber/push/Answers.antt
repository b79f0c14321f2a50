use Rattle.std.proofs.Common.{◌≢◌, ◌≤◌, ◌<◌, ◌∷◌, ◌++◌, [], ℕ, Some, slice_get, sym, ap, subst, ◌∙◌}
use Rattle.std.specs.Prelude.{length, vec_capacity}
use Rattle.names_in_order.specs.Room.{NumberList}
use Rattle.names_in_order.proofs.RoomLemmas.{spare_few, spare_room}
use Rattle.names_in_order.proofs.numbers.NumbersInOrderPushNumber.push.Goals as goal

pub append_number-requires-clause-fresh : goal.append_number-requires-clause-fresh
append_number-requires-clause-fresh c = subst (λ (l : NumberList). (k : ℕ) → slice_get l.numbers k ≢ Some c.args.id) (sym c.self.view_is) c.requires.fresh

pub append_number-requires-clause-known : goal.append_number-requires-clause-known
append_number-requires-clause-known c = subst (λ (l : NumberList). c.args.id.0 < l.reach) (sym c.self.view_is) c.requires.room.reach

pub append_number-requires-clause-room : goal.append_number-requires-clause-room
append_number-requires-clause-room c =
    let ns = c.self.inside.numbers in
    spare_room (vec_capacity ns) (length ns.items) (subst (λ (l : NumberList). 1 ≤ l.spare) (sym c.self.view_is) c.requires.room.spare)

pub append_number-requires-clause-few : goal.append_number-requires-clause-few
append_number-requires-clause-few c =
    let ns = c.self.inside.numbers in
    spare_few (vec_capacity ns) (length ns.items) (subst (λ (l : NumberList). 1 ≤ l.spare) (sym c.self.view_is) c.requires.room.spare)

pub returns : goal.returns
returns c = record { numbers = c.append_number.ensures.numbers ∙ ap (λ (l : NumberList). l.numbers ++ c.args.id ∷ []) c.self.view_is }
