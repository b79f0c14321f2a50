use Rattle.std.proofs.Common.{sym, subst}
use Rattle.std.specs.Prelude.{IsSome}
use Rattle.name_index.specs.Listed.{ProductList, product_at}
use Rattle.name_index.proofs.Live.{some_there, in_order, one_less}
use Rattle.name_index.proofs.products.Products.remove.Goals as goal

pub take_number-requires-clause-there : goal.take_number-requires-clause-there
take_number-requires-clause-there c =
    let i = c.self.inside in
    let s = some_there i.values c.args.number (subst (λ (l : ProductList). IsSome (product_at l c.args.number)) (sym c.self.view_is) c.requires) in
    in_order i.values i.fronts.items c.args.number s.0 c.self.invariant.front_all s.1

pub take_number-requires-2-clause-there : goal.take_number-requires-2-clause-there
take_number-requires-2-clause-there c =
    let i = c.self.inside in
    let s = some_there i.values c.args.number (subst (λ (l : ProductList). IsSome (product_at l c.args.number)) (sym c.self.view_is) c.requires) in
    in_order i.values i.backs.items c.args.number s.0 c.self.invariant.back_all s.1

pub invariant_of-self : goal.invariant_of-self
invariant_of-self c =
    let i = c.self.inside in
    let s = some_there i.values c.args.number (subst (λ (l : ProductList). IsSome (product_at l c.args.number)) (sym c.self.view_is) c.requires) in
    one_less i.values c.remove.new.self c.args.number s.0 i.fronts.items i.backs.items c.take_number.new.order.items c.take_number-2.new.order.items c.self.invariant s.1 c.remove.ensures
    c.take_number.ensures.rises c.take_number-2.ensures.rises c.take_number.ensures.taken c.take_number-2.ensures.taken
