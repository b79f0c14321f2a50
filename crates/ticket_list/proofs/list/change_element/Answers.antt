use Rattle.std.proofs.Common.{ap, ◌∙◌, sym, subst}
use Rattle.std.specs.Prelude.{length}
use Rattle.ticket_list.specs.Slots.{AreSlots, elements, slot_for, occurs_at}
use Rattle.ticket_list.proofs.FoundLemmas.{absent_others, others_change}
use Rattle.ticket_list.proofs.ChangeLemmas.{AreSlots-changed, change_length, changed_here}
use Rattle.ticket_list.proofs.list.change_element.Goals as goal

pub returns-in-Some-clause-kept : goal.returns-in-Some-clause-kept
returns-in-Some-clause-kept g c =
    let ticket_of = g.T.Ticketed.ticket_of in
    let f = g.C.Change.changed c.args.change.now in
    subst (λ u. AreSlots ticket_of u c.args.marks.now) (sym c.change_at.ensures.slots)
    (AreSlots-changed ticket_of f c.requires.same c.in-Some.slot c.args.slots.now.items c.args.marks.now c.requires.kept)

pub returns-in-Some-clause-items : goal.returns-in-Some-clause-items
returns-in-Some-clause-items g c =
    let ticket_of = g.T.Ticketed.ticket_of in
    let f = g.C.Change.changed c.args.change.now in
    let slots = c.args.slots.now.items in
    let t = c.args.ticket in
    let here = c.in-Some.ensures.slot ∙ ap (λ u. slot_for ticket_of t u) c.deref.ensures.value in
    let present = ap (λ u. occurs_at ticket_of u c.in-Some.slot t) (sym c.deref.ensures.value) ∙ c.in-Some.ensures.present in
    ap (λ u. elements u) c.change_at.ensures.slots
    ∙ changed_here ticket_of t f slots c.in-Some.slot c.requires.kept.rising here present

pub returns-in-Some-clause-len : goal.returns-in-Some-clause-len
returns-in-Some-clause-len g c =
    let ticket_of = g.T.Ticketed.ticket_of in
    let f = g.C.Change.changed c.args.change.now in
    ap length c.change_at.ensures.slots ∙ change_length ticket_of f c.in-Some.slot c.args.slots.now.items

pub returns-in_default-clause-items : goal.returns-in_default-clause-items
returns-in_default-clause-items g c =
    let ticket_of = g.T.Ticketed.ticket_of in
    let f = g.C.Change.changed c.args.change.now in
    let slots = c.args.slots.now.items in
    let t = c.args.ticket in
    let absent = ap (λ u. occurs_at ticket_of u (slot_for ticket_of t u) t) (sym c.deref.ensures.value) ∙ c.in_default.ensures.absent in
    others_change ticket_of t f (elements slots) (absent_others ticket_of t slots c.requires.kept.rising absent)
