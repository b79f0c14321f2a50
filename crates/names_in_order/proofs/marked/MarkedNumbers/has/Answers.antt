use Rattle.std.proofs.Common.{◌∙◌, ℕ, Option, slice_get, ap}
use Rattle.std.specs.List.{list_any}
use Rattle.std.specs.Option.{is_some}
use Rattle.names_in_order.specs.InOrder.{same_id}
use Rattle.names_in_order.specs.Marked.{found_place}
use Rattle.names_in_order.specs.Room.{NumberList}
use Rattle.names_in_order.proofs.MarkedLemmas.{has_number}
use Rattle.names_in_order.proofs.marked.MarkedNumbers.has.Goals as goal

pub returns : goal.returns
returns c =
    let id = c.args.id in
    c.is_some.ensures
    ∙ ap (λ (o : Option ℕ). is_some o) c.find_place.ensures
    ∙ (λ i. is_some (found_place (c.deref.ensures.value i) (slice_get (c.deref-2.ensures.value i) id.0) id))
    ∙ has_number c.self.inside.slots.items c.self.inside.places.items c.self.invariant.placed id
    ∙ ap (λ (l : NumberList). list_any (same_id id) l.numbers) c.self.view_is
