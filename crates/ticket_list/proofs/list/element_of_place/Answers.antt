use Rattle.std.proofs.Common.{ap, ◌∙◌, sym, subst}
use Rattle.ticket_list.specs.Rising.{IsRising}
use Rattle.ticket_list.specs.Slots.{element_at, skipped}
use Rattle.ticket_list.proofs.SlotLemmas.{element_of_place, marks_rise}
use Rattle.ticket_list.proofs.list.element_of_place.Goals as goal

pub skip-requires-clause-rising : goal.skip-requires-clause-rising
skip-requires-clause-rising g c = subst IsRising (sym c.requires.marked) (marks_rise 0 c.args.slots.now)

pub returns : goal.returns
returns g c =
    let slots = c.args.slots.now in
    c.element_at.ensures
    ∙ ap (λ k. element_at slots k) (c.skip.ensures ∙ ap (skipped c.args.place) c.requires.marked)
    ∙ element_of_place c.args.place slots
