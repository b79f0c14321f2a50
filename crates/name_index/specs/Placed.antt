-- How products are kept in their lists: different products by place, and the place of each number.
use Rattle.std.specs.Prelude.{◌≡◌, ℕ, ◌<◌, ◌≤◌, List, [], ◌∷◌, ◌++◌, map, get_or, set, length}
use Rattle.std.specs.List.{IsDistinct, slice_get}
use Rattle.cpe_values.specs.declared.value.Value.{Value}
use Rattle.cpe_values.specs.Same.{same_value}
use Rattle.name_index.specs.Listed.{ProductList}

abbrev pub number_at : List ℕ → ℕ → ℕ
number_at numbers place = get_or numbers place 0

-- the product of each number; a number is free if its place is after the products
abbrev pub by_number : List Value → List ℕ → ProductList
by_number values places = map (λ place. slice_get values place) places

-- The list `back` undoes the list `forth`: for each `i` below `len`, if `forth` has `j` at `i`, then `back` has `i` at
-- `j`.
abbrev pub Undoes : ℕ → List ℕ → List ℕ → Type 0
Undoes len forth back = (i : ℕ) → i < len → (number_at forth i < len) × (number_at back (number_at forth i) ≡ i)

pub record ArePlacedProducts (values : List Value) (numbers places : List ℕ) : Type 0 where
  pub paired : length numbers ≡ length places
  pub few : length places ≤ 4294967295
  pub within : length values ≤ length places
  pub there : Undoes (length places) numbers places
  pub back : Undoes (length places) places numbers
  pub different : IsDistinct same_value values

-- A number is free at this place: it was free before, or it is new.
pub data Grows (numbers places : List ℕ) (place : ℕ) (new_numbers new_places : List ℕ) : Type 0 where
  kept_room : place < length places → new_numbers ≡ numbers → new_places ≡ places → Grows numbers places place new_numbers new_places
  one_more : place ≡ length places → place < 4294967295 → new_numbers ≡ numbers ++ place ∷ [] → new_places ≡ places ++ place ∷ [] → Grows numbers places place new_numbers new_places

-- The number of the last place moves to the place of the freed number.
abbrev pub freed_products : List ℕ → List ℕ → ℕ → ℕ → List ℕ
freed_products numbers places n last = set (set numbers (number_at places n) (number_at numbers last)) last n

abbrev pub freed_places : List ℕ → List ℕ → ℕ → ℕ → List ℕ
freed_places numbers places n last = set (set places (number_at numbers last) (number_at places n)) n last
