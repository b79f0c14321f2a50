-- Names in order: their numbers in a table, the place of each number, and an index that holds the numbers.
use Rattle.std.specs.Prelude.{◌≡◌, ◌≢◌, ◌⊎◌, ℕ, Bool, nat_eq, cond, List, map, Option, Some, None, slice_get}
use Rattle.name_index.specs.cpe_name.Eleven.{Values}
use Rattle.name_index.specs.Elements.{SameElements}
use Rattle.name_index.specs.declared.table.NameId.{NameId}
use Rattle.name_index.specs.Table.{Names, find_kept, kept_at, IsLive}
use Rattle.name_index.specs.Index.{FitsTable, ids, name_id}

-- The reserved room. `index`: how many numbers more the index can hold. `list`: how many numbers more the list can
-- have. `reach`: the list can keep the place of each number below this number. `wide`: each product number below this
-- number has a list in the index.
pub record Room : Type 0 where
  pub index : ℕ
  pub list : ℕ
  pub reach : ℕ
  pub wide : ℕ

-- Numbers in order, the pairs that an index holds of them, and the reserved room. A pair is a number and the number of
-- its product.
pub record Roll : Type 0 where
  pub held : List (ℕ × ℕ)
  pub numbers : List NameId
  pub room : Room

abbrev pub same_id : NameId → NameId → Bool
same_id a b = nat_eq a.0 b.0

-- the place, if the number there is `id`
abbrev pub place_found : Option NameId → ℕ → NameId → Option ℕ
place_found None place id = None
place_found (Some other) place id = cond (same_id other id) (Some place) None

-- the names of these numbers
abbrev pub names_numbered : Names → List NameId → List Values
names_numbered table numbers = map (λ (id : NameId). (kept_at table id.0).name) numbers

-- For each of these numbers its place is kept, so no number is twice in the list. The place that is kept for any other
-- number is arbitrary.
abbrev pub HavePlaceOfNumber : List NameId → List ℕ → Type 0
HavePlaceOfNumber numbers places = (k : ℕ) (id : NameId) → slice_get numbers k ≡ Some id → slice_get places id.0 ≡ Some k

abbrev pub AreListedNames : Names → List NameId → Type 0
AreListedNames table numbers = (k : ℕ) (id : NameId) → slice_get numbers k ≡ Some id → IsLive table id.0

-- These numbers are live, and the index holds exactly these numbers, with their product numbers.
pub record AreInOrder (table : Names) (held : List (ℕ × ℕ)) (numbers : List NameId) : Type 0 where
  pub fits : FitsTable held table
  pub same : SameElements (ids held) numbers
  pub live : AreListedNames table numbers

-- What the table keeps of each number is unchanged.
abbrev pub KeepsAll : Names → Names → Type 0
KeepsAll old new = (id : ℕ) → find_kept new id ≡ find_kept old id

-- The number is live, or is not in the list.
abbrev pub IsSafe : Names → List NameId → ℕ → Type 0
IsSafe table numbers id = IsLive table id ⊎ ((k : ℕ) → slice_get numbers k ≢ Some (name_id id))
