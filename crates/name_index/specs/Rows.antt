-- How a table is kept in its lists: the live names by place, and the place of each number.
use Rattle.std.specs.Prelude.{◌≡◌, ◌≢◌, ℕ, ◌<◌, ◌≤◌, nat_lt, nat_eq, ◌&&◌, count_by, cond, List, [], ◌∷◌, ◌++◌, map, get_or, set, length, Option, Some, None, IsSome}
use Rattle.std.specs.List.{All, IsDistinct}
use Rattle.name_index.specs.Listed.{ProductList, product_at}
use Rattle.cpe_values.specs.declared.value.Value.{Value}
use Rattle.cpe_name.specs.Eleven.{Values}
use Rattle.cpe_name.specs.Equal.{same_name}
use Rattle.cpe_name.specs.Lower.{IsLower}
use Rattle.cpe_name.specs.Names.{any_values}
use Rattle.name_index.specs.declared.table.NameRow.{NameRow}
use Rattle.name_index.specs.Table.{Kept, kept, Names}

abbrev pub product_row_with : ℕ → ℕ → ℕ → NameRow
product_row_with place holds product = record { place = place; holds = holds; product = product }

abbrev pub product_row_at : List NameRow → ℕ → NameRow
product_row_at rows n = get_or rows n (product_row_with 0 0 0)

abbrev pub row_number_at : List ℕ → ℕ → ℕ
row_number_at numbers place = get_or numbers place 0

abbrev pub name_in_place : List Values → ℕ → Values
name_in_place names place = get_or names place any_values

abbrev pub kept_of : List Values → NameRow → Option Kept
kept_of names r = cond (nat_lt 0 r.holds) (Some (kept (name_in_place names r.place) r.holds r.product)) None

abbrev pub table_of_rows : List Values → List NameRow → Names
table_of_rows names rows = map (kept_of names) rows

-- Each number has a place, and each place a number. The numbers at the names' places are the live ones.
pub record AreProductRows (names : List Values) (rows : List NameRow) (numbers : List ℕ) (products : ProductList) : Type 0 where
  pub paired : length numbers ≡ length rows
  pub few : length rows ≤ 4294967295
  pub within : length names ≤ length rows
  pub numbered : (p : ℕ) → p < length rows → row_number_at numbers p < length rows
  pub placed : (n : ℕ) → n < length rows → (product_row_at rows n).place < length rows
  pub there : (p : ℕ) → p < length rows → (product_row_at rows (row_number_at numbers p)).place ≡ p
  pub back : (n : ℕ) → n < length rows → row_number_at numbers (product_row_at rows n).place ≡ n
  pub live : (n : ℕ) → n < length rows → nat_lt 0 (product_row_at rows n).holds ≡ nat_lt (product_row_at rows n).place (length names)
  pub small : (n : ℕ) → (product_row_at rows n).holds < 4294967296
  pub different : IsDistinct same_name names
  pub lower : All IsLower names
  pub product : (n : ℕ) → n < length rows → (product_row_at rows n).place < length names → product_at products (product_row_at rows n).product ≡ Some (name_in_place names (product_row_at rows n).place).product

-- A number is free at this place: it was free before, or it is new.
pub data Grows (rows : List NameRow) (numbers : List ℕ) (place : ℕ) (new_rows : List NameRow) (new_numbers : List ℕ) : Type 0 where
  kept_room : place < length rows → new_rows ≡ rows → new_numbers ≡ numbers → Grows rows numbers place new_rows new_numbers
  one_more : place ≡ length rows → place < 4294967295 → new_rows ≡ rows ++ product_row_with place 0 0 ∷ [] → new_numbers ≡ numbers ++ place ∷ [] → Grows rows numbers place new_rows new_numbers

-- The number of the last place moves to the place of the freed number.
abbrev pub freed_row_numbers : List NameRow → List ℕ → ℕ → ℕ → List ℕ
freed_row_numbers rows numbers n last = set (set numbers (product_row_at rows n).place (row_number_at numbers last)) last n

abbrev pub freed_rows : List NameRow → List ℕ → ℕ → ℕ → List NameRow
freed_rows rows numbers n last =
    set (set rows (row_number_at numbers last) (product_row_with (product_row_at rows n).place (product_row_at rows (row_number_at numbers last)).holds (product_row_at rows (row_number_at numbers last)).product)) n (product_row_with last 0 0)

-- how many live names have a product number
abbrev pub names_with : List NameRow → ℕ → ℕ
names_with rows product = count_by (λ r. nat_lt 0 r.holds && nat_eq r.product product) rows

abbrev pub product_count_at : List ℕ → ℕ → ℕ
product_count_at counts product = get_or counts product 0

-- The names of each product are counted, and each product has a name.
pub record AreProductCounts (rows : List NameRow) (products : ProductList) (counts : List ℕ) : Type 0 where
  pub counted : (product : ℕ) → product_count_at counts product ≡ names_with rows product
  pub named : (product : ℕ) → IsSome (product_at products product) → 0 < names_with rows product

-- A product has a number: it had this number before, or the number was free.
pub record HasProductNumber (old new : ProductList) (number : ℕ) (product : Value) : Type 0 where
  pub has : product_at new number ≡ Some product
  pub before : (v : Value) → product_at old number ≡ Some v → v ≡ product
  pub others : (other : ℕ) → other ≢ number → product_at new other ≡ product_at old other
