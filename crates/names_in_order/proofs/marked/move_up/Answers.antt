use Rattle.std.proofs.Common.{◌≡◌, ◌∙◌, List, Option, None, Some, get_or, ap, sym}
use Rattle.name_index.specs.declared.table.NameId.{NameId}
use Rattle.names_in_order.proofs.MarkedLemmas.{closing_more, closing_same}
use Rattle.names_in_order.proofs.marked.move_up.Goals as goal

pub returns-in-Some-clause-closing : goal.returns-in-Some-clause-closing
returns-in-Some-clause-closing c =
    let here : get_or c.args.slots.now.items c.args.read None ≡ Some c.in-Some.id = sym (c.slot_at.ensures ∙ ap (λ (ss : List (Option NameId)). get_or ss c.args.read None) c.deref.ensures.value) ∙ c.in-Some.is in
    closing_more c.args.slots.now.items c.args.places.now.items c.args.read c.args.write c.requires.closing c.requires.within c.in-Some.id here

pub returns-in-Some-clause-numbers : goal.returns-in-Some-clause-numbers
returns-in-Some-clause-numbers c =
    let here : get_or c.args.slots.now.items c.args.read None ≡ Some c.in-Some.id = sym (c.slot_at.ensures ∙ ap (λ (ss : List (Option NameId)). get_or ss c.args.read None) c.deref.ensures.value) ∙ c.in-Some.is in
    closing_same c.args.slots.now.items c.args.places.now.items c.args.read c.args.write c.requires.closing c.requires.within c.in-Some.id here
