use Rattle.std.proofs.Common.{◌≡◌, ◌∙◌, None, Some, slice_get, ap, sym}
use Rattle.names_in_order.specs.InOrder.{same_id}
use Rattle.names_in_order.specs.Marked.{found_place, without_first_place}
use Rattle.names_in_order.specs.Room.{NumberList}
use Rattle.names_in_order.proofs.MarkedLemmas.{found_gone, not_found}
use Rattle.names_in_order.proofs.marked.MarkedNumbers.remove.Goals as goal

pub returns-in-Some : goal.returns-in-Some
returns-in-Some c =
    let id = c.args.id in
    let place : found_place c.self.inside.slots.items (slice_get c.self.inside.places.items id.0) id ≡ Some c.in-Some.place = sym (c.find_place.ensures ∙ (λ i. found_place (c.deref.ensures.value i) (slice_get (c.deref-2.ensures.value i) id.0) id)) ∙ c.in-Some.is in
    c.take_out-self-inside.ensures.numbers
    ∙ found_gone c.self.inside.slots.items c.self.inside.places.items c.self.invariant.placed id c.in-Some.place place
    ∙ ap (λ (l : NumberList). without_first_place (same_id id) l.numbers) c.self.view_is

pub returns-in_default : goal.returns-in_default
returns-in_default c =
    let id = c.args.id in
    let place : found_place c.self.inside.slots.items (slice_get c.self.inside.places.items id.0) id ≡ None = sym (c.find_place.ensures ∙ (λ i. found_place (c.deref.ensures.value i) (slice_get (c.deref-2.ensures.value i) id.0) id)) ∙ c.in_default.is in
    sym (ap (λ (l : NumberList). without_first_place (same_id id) l.numbers) (sym c.self.view_is)
    ∙ not_found c.self.inside.slots.items c.self.inside.places.items c.self.invariant.placed id place
    ∙ ap (λ (l : NumberList). l.numbers) c.self.view_is)
