-- The room that is reserved in a list of names. With this room, a name is added without taking memory.
use Rattle.std.specs.Prelude.{◌≡◌, ◌≤◌, ◌<◌, ◌-◌, ◌^◌, ℕ, List, Some, min, slice_get}
use Rattle.name_index.specs.declared.table.NameId.{NameId}
use Rattle.name_index.specs.Index.{Held}
use Rattle.name_index.specs.Table.{Names, kept_at}
use Rattle.names_in_order.specs.InOrder.{Roll}

-- Numbers in order, and the reserved room. `reach`: the place of each number below this number can be kept. `spare`:
-- how many numbers more the list can have.
pub record NumberList : Type 0 where
  pub numbers : List NameId
  pub reach : ℕ
  pub spare : ℕ

-- how many places of a vector are free; only places below 2^32 are counted
abbrev pub spare_places : ℕ → ℕ → ℕ
spare_places capacity count = min capacity (2 ^ 32) - count

-- The place that was kept for each number is unchanged.
abbrev pub KeepsPlaces : List ℕ → List ℕ → Type 0
KeepsPlaces old new = (k place : ℕ) → slice_get old k ≡ Some place → slice_get new k ≡ Some place

-- Room is reserved for the number.
pub record MayPut (list : NumberList) (id : ℕ) : Type 0 where
  -- There is room for the number's place.
  pub reach : id < list.reach
  -- There is room for the number in the list.
  pub spare : 1 ≤ list.spare

-- the pairs, the numbers and the reserved room of an index and a list of numbers
abbrev pub roll_of : Held → NumberList → Roll
roll_of index list = record {
  held = index.held;
  numbers = list.numbers;
  room = record { index = index.spare; list = list.spare; reach = list.reach; wide = index.wide };
}

-- Room is reserved for a number of the table.
pub record MayPush (table : Names) (roll : Roll) (id : ℕ) : Type 0 where
  -- The index can hold one number more.
  pub index : 1 ≤ roll.room.index
  -- The list can have one number more, at a place below 2^32.
  pub list : 1 ≤ roll.room.list
  -- There is room for the number's place.
  pub reach : id < roll.room.reach
  -- The number's product has a list in the index.
  pub wide : (kept_at table id).product < roll.room.wide

-- The held pairs and the numbers are unchanged; the reserved room can differ.
pub record SameRoll (old new : Roll) : Type 0 where
  pub held : new.held ≡ old.held
  pub numbers : new.numbers ≡ old.numbers
