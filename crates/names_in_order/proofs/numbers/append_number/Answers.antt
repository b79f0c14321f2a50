use Rattle.std.proofs.Common.{◌∷◌, ◌++◌, [], List, ℕ, length, set, sym, subst, ap}
use Rattle.name_index.specs.declared.table.NameId.{NameId}
use Rattle.names_in_order.specs.InOrder.{HavePlaceOfNumber}
use Rattle.names_in_order.proofs.OrderLemmas.{append_number}
use Rattle.names_in_order.proofs.numbers.append_number.Goals as goal

pub returns-clause-placed : goal.returns-clause-placed
returns-clause-placed c =
    let id = c.args.id in
    let ns = c.args.numbers.now.items in
    let ps = c.args.places.now.items in
    subst (λ (xs : List NameId). HavePlaceOfNumber xs (set ps id.0 (length c.as_slice-place.result.now))) (sym c.push_reserved.ensures.items)
    (subst (λ (n : ℕ). HavePlaceOfNumber (ns ++ id ∷ []) (set ps id.0 n)) (sym (ap length c.as_slice-place.ensures.value)) (append_number ns ps c.requires.placed id c.requires.fresh c.requires.known))
