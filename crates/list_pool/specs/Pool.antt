-- A pool as contracts see it.
use Rattle.std.specs.Prelude.{◌≡◌, ◌≢◌, ℕ, ◌+◌, ◌==◌, List, length, [], ◌∷◌, ◌++◌, Option, Some, None, is_some, IsSome, Bool, true, false, cond, count_by, slice_get, slice_index_or, slice_set, zero, suc, ◌-◌}
use Rattle.std.specs.List.{sum_by}
use Rattle.std.specs.Option.{option_map}

-- a cell of a list: its name and its value
abbrev pub Row : Type 0
Row = ℕ × ℕ

-- `lists`: the list of each name, or none if the name is not live. `spare`: how many cells and lists can be added
-- without memory.
pub record Lists : Type 0 where
  pub lists : List (Option (List Row))
  pub spare : ℕ

-- the list of a name, if the name is live
abbrev pub find_list : List (Option (List Row)) → ℕ → Option (List Row)
find_list ls name = slice_index_or ls name None

abbrev pub IsLiveList : List (Option (List Row)) → ℕ → Type 0
IsLiveList ls name = IsSome (find_list ls name)

abbrev pub rows_or_none : Option (List Row) → List Row
rows_or_none None = []
rows_or_none (Some xs) = xs

-- the list of a live name
abbrev pub list_at : List (Option (List Row)) → ℕ → List Row
list_at ls name = rows_or_none (find_list ls name)

-- how many slots a list takes: one slot, and one more for each of its values
abbrev pub slots_of : Option (List Row) → ℕ
slots_of None = 0
slots_of (Some xs) = length xs + 1

-- how many slots all live lists take together
abbrev pub pool_size : List (Option (List Row)) → ℕ
pool_size ls = sum_by slots_of ls

abbrev pub live_count : List (Option (List Row)) → ℕ
live_count ls = count_by is_some ls

-- This name has this list afterwards, and the lists of all other names are unchanged.
pub record Updates (old new : List (Option (List Row))) (name : ℕ) (list : Option (List Row)) : Type 0 where
  pub changed : find_list new name ≡ list
  pub others : (other : ℕ) → other ≢ name → find_list new other ≡ find_list old other

-- the cell at a position of a list
abbrev pub cell_at : List (Option (List Row)) → ℕ → ℕ → Option ℕ
cell_at ls name k = option_map (λ (x : Row). x.0) (slice_get (list_at ls name) k)

-- the value at a position of a list
abbrev pub cell_value_at : List (Option (List Row)) → ℕ → ℕ → Option ℕ
cell_value_at ls name k = option_map (λ (x : Row). x.1) (slice_get (list_at ls name) k)

-- The value is appended in a cell that was in no list.
abbrev pub Pushes : List (Option (List Row)) → List (Option (List Row)) → ℕ → ℕ → Type 0
Pushes old new name value =
    (cell : ℕ) × ((other k : ℕ) → cell_at old other k ≡ Some cell → ⊥) × Updates old new name (Some (list_at old name ++ (cell, value) ∷ []))

-- The cell is in a live list.
abbrev pub IsCell : List (Option (List Row)) → ℕ → Type 0
IsCell ls cell = (name : ℕ) × (k : ℕ) × (cell_at ls name k ≡ Some cell)

-- The cell is in this list.
abbrev pub IsCellOf : List (Option (List Row)) → ℕ → ℕ → Type 0
IsCellOf ls name cell = (k : ℕ) × (cell_at ls name k ≡ Some cell)

-- the last cell of a list
abbrev pub last_cell_of : List (Option (List Row)) → ℕ → Option ℕ
last_cell_of ls name = cell_at ls name (length (list_at ls name) - 1)

-- `next` is the cell after the given cell, in the cell's list.
abbrev pub NextIs : List (Option (List Row)) → ℕ → Option ℕ → Type 0
NextIs ls cell next = (name k : ℕ) → cell_at ls name k ≡ Some cell → next ≡ cell_at ls name (k + 1)

abbrev pub ValueIs : List (Option (List Row)) → ℕ → ℕ → Type 0
ValueIs ls cell value = (name k : ℕ) → cell_at ls name k ≡ Some cell → cell_value_at ls name k ≡ Some value

-- whether some cell has the value
abbrev pub has_value : ℕ → List Row → Bool
has_value value [] = false
has_value value (x ∷ xs) = cond (x.1 == value) true (has_value value xs)

-- the first cell with this value
abbrev pub cell_with : ℕ → List Row → Option ℕ
cell_with value [] = None
cell_with value (x ∷ xs) = cond (x.1 == value) (Some x.0) (cell_with value xs)

-- the list without its first cell with this value
abbrev pub without_first_cell : ℕ → List Row → List Row
without_first_cell value [] = []
without_first_cell value (x ∷ xs) = cond (x.1 == value) xs (x ∷ without_first_cell value xs)

-- the list without the value at a position; the first value moves into the cell of this position
abbrev pub without_at : ℕ → ℕ → List Row → List Row
without_at cell k [] = []
without_at cell zero (x ∷ xs) = xs
without_at cell (suc k) (x ∷ xs) = slice_set xs k (cell, x.1)

-- The cell has this value afterwards, and everything else is unchanged.
abbrev pub WritesCell : List (Option (List Row)) → List (Option (List Row)) → ℕ → ℕ → Type 0
WritesCell old new cell value =
    (name k : ℕ) → cell_at old name k ≡ Some cell → Updates old new name (Some (slice_set (list_at old name) k (cell, value)))

-- The value of the cell is removed from the list.
abbrev pub TakesOut : List (Option (List Row)) → List (Option (List Row)) → ℕ → ℕ → Type 0
TakesOut old new name cell =
    (k : ℕ) → cell_at old name k ≡ Some cell → Updates old new name (Some (without_at cell k (list_at old name)))

-- No cell is at two positions, of one list or of two lists.
abbrev pub AreApart : List (Option (List Row)) → Type 0
AreApart ls = (a i b j cell : ℕ) → cell_at ls a i ≡ Some cell → cell_at ls b j ≡ Some cell → (a ≡ b) × (i ≡ j)
