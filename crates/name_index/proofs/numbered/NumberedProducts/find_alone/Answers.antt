use Rattle.std.proofs.Common.{ℕ, [], List, sym, subst}
use Rattle.std.specs.List.{filter}
use Rattle.cpe_values.specs.Same.{same_value}
use Rattle.name_index.specs.Elements.{SameElements}
use Rattle.name_index.specs.Listed.{ProductList, product_value_at, live}
use Rattle.name_index.specs.Placed.{by_number}
use Rattle.name_index.proofs.Live.{has_one, has_none}
use Rattle.name_index.proofs.Placed.{position_is, found_number, nowhere, one_number}
use Rattle.name_index.proofs.numbered.NumberedProducts.find_alone.Goals as goal

pub returns-in-Some : goal.returns-in-Some
returns-in-Some c =
    let i = c.self.inside in
    let v = c.args.value.now in
    let listed = by_number i.values.keys i.places.items in
    let here = found_number i.values.keys i.numbers.items i.places.items c.self.invariant c.in-Some.place v (position_is i.values.keys v c.in-Some.place (sym c.in-Some.ensures.index)) in
    subst (λ (l : ProductList). SameElements (filter (λ n. same_value v (product_value_at l n)) (live l)) c.number_alone.result.now) c.self.view_is
    (subst (λ (xs : List ℕ). SameElements (filter (λ n. same_value v (product_value_at listed n)) (live listed)) xs) (sym c.number_alone.ensures)
    (has_one listed v _ here (λ k h. one_number i.values.keys i.numbers.items i.places.items c.self.invariant k _ v h here)))

pub returns-in-None : goal.returns-in-None
returns-in-None c =
    let i = c.self.inside in
    let v = c.args.value.now in
    let listed = by_number i.values.keys i.places.items in
    subst (λ (l : ProductList). SameElements (filter (λ n. same_value v (product_value_at l n)) (live l)) []) c.self.view_is
    (has_none listed v (nowhere i.values.keys i.numbers.items i.places.items c.self.invariant v (sym c.in-None.ensures.found)))
