use Rattle.std.proofs.Common.{◌≡◌, Some, sym, subst}
use Rattle.name_index.specs.Listed.{ProductList, product_at}
use Rattle.name_index.proofs.Placed.{one_number}
use Rattle.name_index.proofs.numbered.NumberedProducts.lawful.Goals as goal

pub returns : goal.returns
returns c m n v h k =
    let i = c.self.inside in
    one_number i.values.keys i.numbers.items i.places.items c.self.invariant m n v
    (subst (λ (l : ProductList). product_at l m ≡ Some v) (sym c.self.view_is) h) (subst (λ (l : ProductList). product_at l n ≡ Some v) (sym c.self.view_is) k)
