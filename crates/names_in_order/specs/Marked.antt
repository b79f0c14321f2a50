-- Numbers by place, with a mark in the slot of each removed number.
use Rattle.std.specs.Prelude.{◌≡◌, ◌≤◌, ◌<◌, ◌+◌, ◌^◌, ◌++◌, ◌∷◌, [], ℕ, Bool, true, false, nat_lt, cond, if◌then◌else◌, filter, length, take, drop, get_or, List, Option, Some, None, slice_get}
use Rattle.std.specs.List.{cons_option, filter_map, list_any}
use Rattle.name_index.specs.Elements.{SameElements}
use Rattle.name_index.specs.declared.table.NameId.{NameId}
use Rattle.names_in_order.specs.InOrder.{same_id}

-- the numbers of these slots, in their order
abbrev pub numbers_in : List (Option NameId) → List NameId
numbers_in [] = []
numbers_in (slot ∷ slots) = cons_option slot (numbers_in slots)

-- the list without its first element that passes the test
abbrev pub without_first_place : {A : Type 0} → (A → Bool) → List A → List A
without_first_place passes [] = []
without_first_place passes (x ∷ xs) = if passes x then xs else x ∷ without_first_place passes xs

abbrev pub is_slot_of : NameId → Option NameId → Bool
is_slot_of id None = false
is_slot_of id (Some other) = same_id id other

-- the place that is kept for a number, if the slot there has the number
abbrev pub found_place : List (Option NameId) → Option ℕ → NameId → Option ℕ
found_place slots None id = None
found_place slots (Some place) id = cond (is_slot_of id (get_or slots place None)) (Some place) None

-- the places that are kept for these numbers
abbrev pub places_of : List ℕ → List NameId → List ℕ
places_of places ids = filter_map (λ (id : NameId). slice_get places id.0) ids

-- the numbers at these places
abbrev pub standing_at : List (Option NameId) → List ℕ → List NameId
standing_at slots places = filter_map (λ (k : ℕ). get_or slots k None) places

-- If `found` are the numbers of the list that pass some test, in any order, then `ids` are the same numbers in the
-- list's order.
abbrev pub PutsInOrder : List NameId → List NameId → List NameId → Type 0
PutsInOrder numbers found ids = (p : NameId → Bool) → SameElements (filter p numbers) found → ids ≡ filter p numbers

-- the earlier of two places
abbrev pub earlier : Option ℕ → Option ℕ → Option ℕ
earlier None place = place
earlier (Some first) None = Some first
earlier (Some first) (Some place) = Some (cond (nat_lt place first) place first)

-- the first place whose slot has one of the numbers `ids`, if there is one
abbrev pub IsFirstPlace : List (Option NameId) → List NameId → Option ℕ → Type 0
IsFirstPlace slots ids None = (k : ℕ) (id : NameId) → get_or slots k None ≡ Some id → list_any (same_id id) ids ≡ false
IsFirstPlace slots ids (Some place) =
    (id : NameId) × (get_or slots place None ≡ Some id) × (list_any (same_id id) ids ≡ true)
    × ((k : ℕ) (other : NameId) → k < place → get_or slots k None ≡ Some other → list_any (same_id other) ids ≡ false)

-- For each number in a slot its place is kept, so no number is in two slots. The place that is kept for any other
-- number is arbitrary.
abbrev pub HavePlaces : List (Option NameId) → List ℕ → Type 0
HavePlaces slots places = (k : ℕ) (id : NameId) → get_or slots k None ≡ Some id → slice_get places id.0 ≡ Some k

-- The slots have `count` numbers, and no more marks than numbers.
pub record AreMarkedPlaces (slots : List (Option NameId)) (places : List ℕ) (count : ℕ) : Type 0 where
  pub placed : HavePlaces slots places
  pub counted : count ≡ length (numbers_in slots)
  pub few : length slots ≤ 2 ^ 32
  pub dense : length slots ≤ count + count

-- Slots while marks are removed. The numbers before place `read` are moved up to the places before `write`, without
-- marks.
pub record AreClosing (slots : List (Option NameId)) (places : List ℕ) (read write : ℕ) : Type 0 where
  pub behind : write ≤ read
  pub moved : (k : ℕ) (id : NameId) → k < write → get_or slots k None ≡ Some id → slice_get places id.0 ≡ Some k
  pub left : (k : ℕ) (id : NameId) → read ≤ k → get_or slots k None ≡ Some id → slice_get places id.0 ≡ Some k
  pub full : length (numbers_in (take write slots)) ≡ write
  pub few : length slots ≤ 2 ^ 32

-- the numbers that are moved up already, followed by those that are still to be read
abbrev pub closing_numbers : List (Option NameId) → ℕ → ℕ → List NameId
closing_numbers slots read write = numbers_in (take write slots) ++ numbers_in (drop read slots)
