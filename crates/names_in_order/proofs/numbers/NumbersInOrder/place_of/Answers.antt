use Rattle.std.proofs.Common.{List, ℕ, None, Some, slice_get, position, sym, ap, ◌∙◌}
use Rattle.name_index.specs.declared.table.NameId.{NameId}
use Rattle.names_in_order.specs.InOrder.{same_id, place_found}
use Rattle.names_in_order.specs.Room.{NumberList}
use Rattle.names_in_order.proofs.OrderLemmas.{found_number}
use Rattle.names_in_order.proofs.numbers.NumbersInOrder.place_of.Goals as goal

pub returns-in-Some : goal.returns-in-Some
returns-in-Some c =
    let i = c.self.inside in
    let id = c.args.id in
    let p = c.in-Some.place in
    let kept = ap (λ (ps : List ℕ). slice_get ps id.0) (sym c.deref.ensures.value) ∙ sym c.in-Some.ensures in
    c.confirmed.ensures
    ∙ ap (λ (ns : List NameId). place_found (slice_get ns p) p id) c.deref-in-Some.ensures.value
    ∙ sym (found_number i.numbers.items i.places.items c.self.invariant id (Some p) kept)
    ∙ ap (λ (l : NumberList). position (same_id id) l.numbers) c.self.view_is

pub returns-in-None : goal.returns-in-None
returns-in-None c =
    let i = c.self.inside in
    let id = c.args.id in
    let kept = ap (λ (ps : List ℕ). slice_get ps id.0) (sym c.deref.ensures.value) ∙ sym c.in-None.ensures in
    sym (found_number i.numbers.items i.places.items c.self.invariant id None kept) ∙ ap (λ (l : NumberList). position (same_id id) l.numbers) c.self.view_is
