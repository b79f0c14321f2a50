use Rattle.std.proofs.Common.{◌≡◌, ◌+◌, ◌-◌, ◌<◌, ℕ, length, sym, subst, arith}
use Rattle.std.specs.Prelude.{IsSome}
use Rattle.name_index.specs.Listed.{ProductList, product_at, Removes}
use Rattle.name_index.specs.Placed.{by_number}
use Rattle.name_index.proofs.Placed.{present, gone}
use Rattle.name_index.proofs.numbered.NumberedProducts.remove.Goals as goal

pub take_value-requires : goal.take_value-requires
take_value-requires c =
    let i = c.self.inside in
    let s = present i.values.keys i.numbers.items i.places.items c.args.number c.self.invariant (subst (λ (l : ProductList). IsSome (product_at l c.args.number)) (sym c.self.view_is) c.requires) in
    subst (λ (k : ℕ). k < length i.values.keys) (sym c.number_of-place.ensures) s.1

pub invariant_of-self : goal.invariant_of-self
invariant_of-self c =
    let i = c.self.inside in
    let s = present i.values.keys i.numbers.items i.places.items c.args.number c.self.invariant (subst (λ (l : ProductList). IsSome (product_at l c.args.number)) (sym c.self.view_is) c.requires) in
    let last : c.len-last.result - 1 + 1 ≡ length i.values.keys = omega (arith, c.len-last.ensures.len, s.1) in
    (gone i.values.keys i.numbers.items i.places.items c.args.number c.number_of-place.result (c.len-last.result - 1) c.self.invariant s c.number_of-place.ensures last
    c.take_value.new.values.keys c.move_last.new.numbers.items c.move_last.new.places.items c.take_value.ensures.keys c.take_value.ensures.unique c.move_last.ensures.numbers c.move_last.ensures.places).placed

pub returns : goal.returns
returns c =
    let i = c.self.inside in
    let s = present i.values.keys i.numbers.items i.places.items c.args.number c.self.invariant (subst (λ (l : ProductList). IsSome (product_at l c.args.number)) (sym c.self.view_is) c.requires) in
    let last : c.len-last.result - 1 + 1 ≡ length i.values.keys = omega (arith, c.len-last.ensures.len, s.1) in
    subst (λ (l : ProductList). Removes l (by_number c.take_value.new.values.keys c.move_last.new.places.items) c.args.number) c.self.view_is
    (gone i.values.keys i.numbers.items i.places.items c.args.number c.number_of-place.result (c.len-last.result - 1) c.self.invariant s c.number_of-place.ensures last
    c.take_value.new.values.keys c.move_last.new.numbers.items c.move_last.new.places.items c.take_value.ensures.keys c.take_value.ensures.unique c.move_last.ensures.numbers c.move_last.ensures.places).removes
