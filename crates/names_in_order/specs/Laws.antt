-- Laws of ordered numbers and the table of their names.
use Rattle.std.specs.Prelude.{◌≡◌, ◌∷◌, ◌++◌, [], ℕ, List}
use Rattle.name_index.specs.cpe_name.Eleven.{Values}
use Rattle.name_index.specs.declared.table.NameId.{NameId}
use Rattle.name_index.specs.Table.{IsNameTable, Names, kept_at, HoldsName, Releases}
use Rattle.names_in_order.specs.InOrder.{AreInOrder, IsSafe, KeepsAll, names_numbered}

-- Numbers stay in order, and keep their names, while others hold and release names of the table.
pub record OrdersStay : Type 0 where
  -- The empty list is in order.
  pub empty : (table : Names) → AreInOrder table [] []
  -- Numbers stay in order if a name is held.
  pub held : (old new : Names) (id : ℕ) (name : Values) (held : List (ℕ × ℕ)) (numbers : List NameId) → HoldsName old new id name → AreInOrder old held numbers → AreInOrder new held numbers
  -- Numbers keep their names if a name is held.
  pub held_names : (old new : Names) (id : ℕ) (name : Values) (held : List (ℕ × ℕ)) (numbers : List NameId) → HoldsName old new id name → AreInOrder old held numbers → names_numbered new numbers ≡ names_numbered old numbers
  -- Numbers stay in order if a number is released that is not among them, or that is live afterwards.
  pub released : (old new : Names) (id : ℕ) (held : List (ℕ × ℕ)) (numbers : List NameId) → Releases old new id → IsSafe new numbers id → AreInOrder old held numbers → AreInOrder new held numbers
  -- Numbers keep their names if a number is released that is not among them, or that is live afterwards.
  pub released_names : (old new : Names) (id : ℕ) (held : List (ℕ × ℕ)) (numbers : List NameId) → Releases old new id → IsSafe new numbers id → AreInOrder old held numbers → names_numbered new numbers ≡ names_numbered old numbers
  -- Numbers stay in order if what the table keeps of each number is unchanged.
  pub kept : (old new : Names) (held : List (ℕ × ℕ)) (numbers : List NameId) → KeepsAll old new → AreInOrder old held numbers → AreInOrder new held numbers
  -- Numbers keep their names if what the table keeps of each number is unchanged.
  pub kept_names : (old new : Names) (numbers : List NameId) → KeepsAll old new → names_numbered new numbers ≡ names_numbered old numbers
  -- If a name is held and then released, what the table keeps of each number is unchanged.
  pub undone : (old mid new : Names) (id : ℕ) (name : Values) → IsNameTable old → HoldsName old mid id name → Releases mid new id → KeepsAll old new
  -- If a number is appended, its name is appended to the names.
  pub more : (table : Names) (numbers : List NameId) (id : NameId) → names_numbered table (numbers ++ id ∷ []) ≡ names_numbered table numbers ++ (kept_at table id.0).name ∷ []
