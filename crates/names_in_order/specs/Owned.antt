-- A table of names that is used by one list of names only.
use Rattle.std.specs.Prelude.{◌≡◌, ◌≢◌, ℕ, List, Some, false, true}
use Rattle.std.specs.List.{list_any}
use Rattle.name_index.specs.cpe_name.Equal.{same_name}
use Rattle.name_index.specs.declared.table.NameId.{NameId}
use Rattle.name_index.specs.Index.{name_id}
use Rattle.name_index.specs.Table.{Names, Kept, IsLive, find_kept, kept_at}
use Rattle.names_in_order.specs.InOrder.{AreInOrder, names_numbered, same_id}

-- Each live number is held once, and is in the list.
pub record AreOwn (table : Names) (held : List (ℕ × ℕ)) (numbers : List NameId) : Type 0 where
  pub order : AreInOrder table held numbers
  pub once : (id : ℕ) (k : Kept) → find_kept table id ≡ Some k → k.holds ≡ 1
  pub among : (id : ℕ) (k : Kept) → find_kept table id ≡ Some k → list_any (same_id (name_id id)) numbers ≡ true

-- As `AreOwn`, except for one live number, whose name is not yet in the list.
pub record IsNew (table : Names) (held : List (ℕ × ℕ)) (numbers : List NameId) (new : NameId) : Type 0 where
  pub order : AreInOrder table held numbers
  pub once : (id : ℕ) (k : Kept) → find_kept table id ≡ Some k → k.holds ≡ 1
  pub among : (id : ℕ) (k : Kept) → find_kept table id ≡ Some k → id ≢ new.0 → list_any (same_id (name_id id)) numbers ≡ true
  pub live : IsLive table new.0
  pub fresh : list_any (same_name (kept_at table new.0).name) (names_numbered table numbers) ≡ false
