-- Products by number, and which of them are near a given product.
use Rattle.std.specs.Prelude.{◌≡◌, ℕ, Bool, List, Some}
use Rattle.cpe_values.specs.declared.value.Value.{Value}
use Rattle.cpe_values.specs.Lower.{lower_value}
use Rattle.cpe_relation.specs.Near.{near}
use Rattle.cpe_relation.specs.NameRelation.{is_above}
use Rattle.cpe_relation.specs.Table.{relation}
use Rattle.name_index.specs.declared.keys.End.TheVariants as end
use Rattle.name_index.specs.declared.products.Side.{Side}
use Rattle.name_index.specs.declared.products.Side.TheVariants as side
use Rattle.name_index.specs.Elements.{SameElements}
use Rattle.name_index.specs.Keys.{Rises}
use Rattle.name_index.specs.Listed.{ProductList, product_at, live}

-- whether two products are near; `asked` is the source or the target, by the side
abbrev pub near_on : Side → Value → Value → Bool
near_on side.Source asked other = near asked other
near_on side.Target asked other = near other asked

-- whether the asked product is SUPERSET of the other product, or EQUAL to it
abbrev pub covers_product : Value → Value → Bool
covers_product asked other = is_above (relation asked other)

-- Both orders are sorted and have each number of a product once; the products are in lower case.
pub record AreOrders (products : ProductList) (fronts backs : List ℕ) : Type 0 where
  pub front : Rises end.Front products fronts
  pub back : Rises end.Back products backs
  pub front_all : SameElements (live products) fronts
  pub back_all : SameElements (live products) backs
  pub lower : (number : ℕ) (v : Value) → product_at products number ≡ Some v → lower_value v ≡ v
