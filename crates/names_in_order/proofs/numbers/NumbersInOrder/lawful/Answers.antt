use Rattle.std.proofs.Common.{subst}
use Rattle.std.specs.List.{IsDistinct}
use Rattle.names_in_order.specs.InOrder.{same_id}
use Rattle.names_in_order.specs.Room.{NumberList}
use Rattle.names_in_order.proofs.OrderLemmas.{distinct}
use Rattle.names_in_order.proofs.numbers.NumbersInOrder.lawful.Goals as goal

pub returns : goal.returns
returns c = subst (λ (l : NumberList). IsDistinct same_id l.numbers) c.self.view_is (distinct c.self.inside.numbers.items c.self.inside.places.items c.self.invariant)
