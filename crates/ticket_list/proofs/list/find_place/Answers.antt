use Rattle.std.proofs.Common.{◌∙◌, ap, arith, sym, subst}
use Rattle.std.specs.Prelude.{nat_lt, ℕ, List}
use Rattle.ticket_list.specs.Rising.{IsRising, prefix}
use Rattle.ticket_list.specs.Slots.{elements}
use Rattle.ticket_list.proofs.SlotLemmas.{marks_rise, ranked}
use Rattle.ticket_list.proofs.FoundLemmas.{absent_others, found_within, others_place, place_here}
use Rattle.ticket_list.proofs.list.find_place.Goals as goal

pub count_before-requires : goal.count_before-requires
count_before-requires g c = subst IsRising (sym c.requires.marked) (marks_rise 0 c.args.slots.now)

pub overflow_sub-result : goal.overflow_sub-result
overflow_sub-result g c =
    let k = c.in-Some.slot in
    let slots = c.args.slots.now in
    let within = found_within g.T.Ticketed.ticket_of c.args.ticket slots k c.in-Some.ensures.present in
    let count = c.count_before.ensures.count ∙ ap (λ (u : List ℕ). prefix (λ m. nat_lt m k) u) c.requires.marked in
    let total = ranked k slots (omega (arith, within)) in
    omega (arith, count, total)

pub returns-in-Some : goal.returns-in-Some
returns-in-Some g c =
    let k = c.in-Some.slot in
    let slots = c.args.slots.now in
    let within = found_within g.T.Ticketed.ticket_of c.args.ticket slots k c.in-Some.ensures.present in
    let count = c.count_before.ensures.count ∙ ap (λ (u : List ℕ). prefix (λ m. nat_lt m k) u) c.requires.marked in
    let total = ranked k slots (omega (arith, within)) in
    place_here g.T.Ticketed.ticket_of c.args.ticket slots k _ c.in-Some.ensures.slot c.in-Some.ensures.present (omega (arith, count, total))

pub returns-in-None : goal.returns-in-None
returns-in-None g c =
    let ticket_of = g.T.Ticketed.ticket_of in
    let slots = c.args.slots.now in
    others_place ticket_of c.args.ticket (elements slots) (absent_others ticket_of c.args.ticket slots c.requires.rising c.in-None.ensures.absent)
