use Rattle.std.proofs.Common.{ap, ◌∙◌}
use Rattle.names_in_order.specs.Room.{NumberList}
use Rattle.names_in_order.proofs.RoomLemmas.{still_placed}
use Rattle.names_in_order.proofs.numbers.NumbersInOrderPushNumber.reserve.Goals as goal

pub invariant_of-self : goal.invariant_of-self
invariant_of-self c =
    let i = c.self.inside in
    still_placed i.numbers.items c.make_place.new.slots.items i.places.items c.make_place.new.places.items c.make_place.ensures.slots c.make_place.ensures.kept c.self.invariant

pub returns-clause-numbers : goal.returns-clause-numbers
returns-clause-numbers c = c.make_place.ensures.slots ∙ ap (λ (l : NumberList). l.numbers) c.self.view_is
