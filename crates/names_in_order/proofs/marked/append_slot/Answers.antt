use Rattle.std.proofs.Common.{◌∙◌, ◌++◌, ◌∷◌, ◌+◌, [], ℕ, List, Option, Some, arith, length, set, ap, subst, sym}
use Rattle.name_index.specs.declared.table.NameId.{NameId}
use Rattle.names_in_order.specs.Marked.{AreMarkedPlaces, numbers_in}
use Rattle.names_in_order.proofs.MarkedLemmas.{no_more, numbers-append, put_marked}
use Rattle.names_in_order.proofs.marked.append_slot.Goals as goal

pub returns-clause-numbers : goal.returns-clause-numbers
returns-clause-numbers c = ap (λ (ss : List (Option NameId)). numbers_in ss) c.push_reserved.ensures.items ∙ numbers-append c.args.slots.now.items (Some c.args.id ∷ [])

pub returns-clause-marked : goal.returns-clause-marked
returns-clause-marked c =
    let id = c.args.id in
    let slots = c.args.slots.now.items in
    let places = c.args.places.now.items in
    subst (λ (ss : List (Option NameId)). AreMarkedPlaces ss (set places id.0 (length c.as_slice-place.result.now)) (c.args.len + 1)) (sym c.push_reserved.ensures.items)
    (subst (λ (n : ℕ). AreMarkedPlaces (slots ++ Some id ∷ []) (set places id.0 n) (c.args.len + 1)) (sym (ap length c.as_slice-place.ensures.value))
    (put_marked slots places places c.args.len id c.requires.marked c.requires.marked.placed c.requires.fresh c.requires.known c.requires.few))

pub returns-clause-few : goal.returns-clause-few
returns-clause-few c = omega (arith, c.requires.few, c.requires.marked.counted, no_more c.args.slots.now.items)
