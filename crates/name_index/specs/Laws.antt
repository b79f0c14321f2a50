-- Laws of held numbers and the table of their names.
use Rattle.std.specs.Prelude.{◌≡◌, ℕ, ◌∷◌, List, None, Contains}
use Rattle.cpe_name.specs.Eleven.{Values}
use Rattle.name_index.specs.Elements.{SameElements}
use Rattle.name_index.specs.Table.{Names, find_kept, kept_at, IsLive, HasName, HoldsName, Releases}
use Rattle.name_index.specs.Index.{FitsTable, times_held}

-- Held numbers fit a table after changes, and a name that is held has a live number.
pub record FittingLaws : Type 0 where
  -- They fit after a name is held.
  pub held : (old new : Names) (id : ℕ) (name : Values) (held : List (ℕ × ℕ)) → HoldsName old new id name → FitsTable held old → FitsTable held new
  -- They fit after a number is released that isn't held by the index.
  pub released : (old new : Names) (id : ℕ) (held : List (ℕ × ℕ)) → Releases old new id → times_held held id ≡ 0 → FitsTable held old → FitsTable held new
  -- They fit after a live number is added to the index.
  pub added : (names : Names) (id : ℕ) (held more : List (ℕ × ℕ)) → IsLive names id → SameElements ((id, (kept_at names id).product) ∷ held) more → FitsTable held names → FitsTable more names
  -- They fit after a number is removed from the index.
  pub dropped : (names : Names) (id product : ℕ) (held fewer : List (ℕ × ℕ)) → SameElements held ((id, product) ∷ fewer) → FitsTable held names → FitsTable fewer names
  -- A number that isn't live isn't held by the index.
  pub fresh : (names : Names) (id : ℕ) (held : List (ℕ × ℕ)) → FitsTable held names → find_kept names id ≡ None → times_held held id ≡ 0
  -- If two lists have the same elements, each pair of one list is in the other list.
  pub present : (held more : List (ℕ × ℕ)) (id product : ℕ) → SameElements held more → Contains held (id, product) → Contains more (id, product)
  -- If no live number has a name, holding this name returns a number that wasn't live.
  pub number : (old new : Names) (id : ℕ) (name : Values) → HoldsName old new id name → ((other : ℕ) → HasName old other name → ⊥) → find_kept old id ≡ None
  -- The number of a name that was held is live.
  pub live : (old new : Names) (id : ℕ) (name : Values) → HoldsName old new id name → IsLive new id
  -- The number of a name that was held has this name.
  pub named : (old new : Names) (id : ℕ) (name : Values) → HoldsName old new id name → (kept_at new id).name ≡ name
