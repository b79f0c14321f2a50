-- Products by number: a number has at most one product.
use Rattle.std.specs.Prelude.{◌≡◌, ◌≢◌, ℕ, List, Option, Some, None, is_some, length}
use Rattle.std.specs.List.{slice_index_or, filter, range_with_len}
use Rattle.cpe_values.specs.declared.value.Value.{Value}
use Rattle.cpe_values.specs.declared.value.Value.TheVariants as value

abbrev pub Product : Type 0
Product = Value

-- the product of each number; none if the number is free
abbrev pub ProductList : Type 0
ProductList = List (Option Product)

abbrev pub product_at : ProductList → ℕ → Option Product
product_at products n = slice_index_or products n None

abbrev pub value_or : Option Product → Value
value_or None = value.Any
value_or (Some v) = v

-- the product of a number, or ANY if the number is free
abbrev pub product_value_at : ProductList → ℕ → Value
product_value_at products n = value_or (product_at products n)

-- the first `n` numbers, from 0
abbrev pub numbers_to : ℕ → List ℕ
numbers_to n = range_with_len 0 n

-- the numbers that have a product
abbrev pub live : ProductList → List ℕ
live products = filter (λ n. is_some (product_at products n)) (numbers_to (length products))

-- A free number gets the product; the other numbers keep their products.
pub record AddsProduct (old new : ProductList) (number : ℕ) (product : Product) : Type 0 where
  pub free : product_at old number ≡ None
  pub added : product_at new number ≡ Some product
  pub others : (other : ℕ) → other ≢ number → product_at new other ≡ product_at old other

-- A number is freed; the other numbers keep their products.
pub record Removes (old new : ProductList) (number : ℕ) : Type 0 where
  pub free : product_at new number ≡ None
  pub others : (other : ℕ) → other ≢ number → product_at new other ≡ product_at old other
