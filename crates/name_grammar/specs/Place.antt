-- The place of a text that a grammar doesn't have: the length of its longest beginning with which some text of the
-- grammar begins.
use Rattle.std.specs.Prelude.{ℕ, ◌-◌, ◌<◌, ◌≤◌, List, ◌++◌, length, take}

-- some text of the grammar begins with this prefix
abbrev pub BeginsText : (List ℕ → Type 0) → List ℕ → Type 0
BeginsText Grammar prefix = (rest : List ℕ) × Grammar (prefix ++ rest)

-- the place is the length of the longest prefix of the text with which some text of the grammar begins
pub record IsPlace (Grammar : List ℕ → Type 0) (text : List ℕ) (place : ℕ) : Type 0 where
  pub within : place ≤ length text
  pub begins : BeginsText Grammar (take place text)
  pub longest : (n : ℕ) → place < n → n ≤ length text → BeginsText Grammar (take n text) → ⊥

-- the grammar doesn't have the text, and `place` is the text's place
pub record Leaves (Grammar : List ℕ → Type 0) (text : List ℕ) (place : ℕ) : Type 0 where
  pub refused : ¬ (Grammar text)
  pub is_place : IsPlace Grammar text place

-- the grammar doesn't have the text, and `left` bytes are after the text's place
pub record StopsAt (Grammar : List ℕ → Type 0) (text : List ℕ) (left : ℕ) : Type 0 where
  pub within : left ≤ length text
  pub at : Leaves Grammar text (length text - left)
