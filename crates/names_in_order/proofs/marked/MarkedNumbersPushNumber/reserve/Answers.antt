use Rattle.std.proofs.Common.{ap, ◌∙◌}
use Rattle.names_in_order.specs.Marked.{numbers_in}
use Rattle.names_in_order.specs.Room.{NumberList}
use Rattle.names_in_order.proofs.RoomLemmas.{still_marked}
use Rattle.names_in_order.proofs.marked.MarkedNumbersPushNumber.reserve.Goals as goal

pub invariant_of-self : goal.invariant_of-self
invariant_of-self c =
    let i = c.self.inside in
    still_marked i.slots.items c.make_place.new.slots.items i.places.items c.make_place.new.places.items i.len c.make_place.ensures.slots c.make_place.ensures.kept c.self.invariant

pub returns-clause-numbers : goal.returns-clause-numbers
returns-clause-numbers c = ap numbers_in c.make_place.ensures.slots ∙ ap (λ (l : NumberList). l.numbers) c.self.view_is
