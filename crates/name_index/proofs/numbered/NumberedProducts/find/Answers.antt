use Rattle.std.proofs.Common.{◌≡◌, ℕ, Some, sym, ap, subst, ◌∙◌}
use Rattle.name_index.specs.Listed.{ProductList, product_at}
use Rattle.name_index.specs.Placed.{by_number}
use Rattle.name_index.proofs.Placed.{position_is, found_number, nowhere}
use Rattle.name_index.proofs.numbered.NumberedProducts.find.Goals as goal

pub returns-in-Some-clause-found : goal.returns-in-Some-clause-found
returns-in-Some-clause-found c =
    let i = c.self.inside in
    let v = c.args.value.now in
    subst (λ (l : ProductList). product_at l c.number_of.result ≡ Some v) c.self.view_is
    (ap (λ (n : ℕ). product_at (by_number i.values.keys i.places.items) n) c.number_of.ensures
    ∙ found_number i.values.keys i.numbers.items i.places.items c.self.invariant c.in-Some.place v (position_is i.values.keys v c.in-Some.place (sym c.in-Some.ensures.index)))

pub returns-in-None-clause-none : goal.returns-in-None-clause-none
returns-in-None-clause-none c e number h =
    let i = c.self.inside in
    nowhere i.values.keys i.numbers.items i.places.items c.self.invariant c.args.value.now (sym c.in-None.ensures.found) number (subst (λ (l : ProductList). product_at l number ≡ Some c.args.value.now) (sym c.self.view_is) h)
