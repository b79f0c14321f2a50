use Rattle.std.proofs.Common.{◌≡◌, subst}
use Rattle.cpe_values.specs.Lower.{lower_value}
use Rattle.name_index.specs.Listed.{ProductList, product_value_at}
use Rattle.name_index.proofs.Live.{all_lower}
use Rattle.name_index.proofs.products.Products.lawful.Goals as goal

pub returns-clause-lower : goal.returns-clause-lower
returns-clause-lower c number =
    let i = c.self.inside in
    subst (λ (l : ProductList). lower_value (product_value_at l number) ≡ product_value_at l number) c.self.view_is (all_lower i.values i.fronts.items i.backs.items c.self.invariant number)
