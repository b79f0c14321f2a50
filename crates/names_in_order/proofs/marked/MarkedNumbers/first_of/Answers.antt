use Rattle.std.proofs.Common.{◌∙◌, ℕ, None, Option, Some, get_or, ap, subst}
use Rattle.std.specs.Prelude.{find}
use Rattle.std.specs.List.{list_any}
use Rattle.name_index.specs.declared.table.NameId.{NameId}
use Rattle.names_in_order.specs.InOrder.{same_id}
use Rattle.names_in_order.specs.Marked.{IsFirstPlace}
use Rattle.names_in_order.specs.Room.{NumberList}
use Rattle.names_in_order.proofs.FirstLemmas.{first_is}
use Rattle.names_in_order.proofs.MarkedLemmas.{Slots}
use Rattle.names_in_order.proofs.marked.MarkedNumbers.first_of.Goals as goal

pub returns-in-Some : goal.returns-in-Some
returns-in-Some c =
    let slots = c.self.inside.slots.items in
    let ids = c.args.ids.now in
    let first : IsFirstPlace slots ids (Some c.in-Some.place) = subst (λ (o : Option ℕ). IsFirstPlace slots ids o) c.in-Some.is (subst (λ (ss : Slots). IsFirstPlace ss ids c.first_place.result) c.deref.ensures.value c.first_place.ensures) in
    c.slot_at.ensures
    ∙ ap (λ (ss : Slots). get_or ss c.in-Some.place None) c.deref-in-Some.ensures.value
    ∙ first_is slots ids (Some c.in-Some.place) first
    ∙ ap (λ (l : NumberList). find (λ (id : NameId). list_any (same_id id) ids) l.numbers) c.self.view_is

pub returns-in-None : goal.returns-in-None
returns-in-None c =
    let slots = c.self.inside.slots.items in
    let ids = c.args.ids.now in
    let first : IsFirstPlace slots ids None = subst (λ (o : Option ℕ). IsFirstPlace slots ids o) c.in-None.is (subst (λ (ss : Slots). IsFirstPlace ss ids c.first_place.result) c.deref.ensures.value c.first_place.ensures) in
    first_is slots ids None first ∙ ap (λ (l : NumberList). find (λ (id : NameId). list_any (same_id id) ids) l.numbers) c.self.view_is
