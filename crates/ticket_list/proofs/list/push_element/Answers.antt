use Rattle.std.proofs.Common.{ap, ◌∙◌, sym, subst}
use Rattle.ticket_list.specs.Slots.{AreSlots, elements}
use Rattle.ticket_list.proofs.SlotLemmas.{last_elements}
use Rattle.ticket_list.proofs.ChangeLemmas.{AreSlots-pushed}
use Rattle.ticket_list.proofs.list.push_element.Goals as goal

pub returns-clause-kept : goal.returns-clause-kept
returns-clause-kept g c =
    let ticket_of = g.T.Ticketed.ticket_of in
    subst (λ u. AreSlots ticket_of u c.args.marks.now) (sym c.push_reserved.ensures.items) (AreSlots-pushed ticket_of c.args.element c.args.slots.now.items c.args.marks.now c.requires.kept c.requires.last)

pub returns-clause-items : goal.returns-clause-items
returns-clause-items g c = ap (λ u. elements u) c.push_reserved.ensures.items ∙ last_elements c.args.element c.args.slots.now.items
