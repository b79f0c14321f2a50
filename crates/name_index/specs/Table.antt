-- A table of names as contracts see it: what is kept of each number.
use Rattle.std.specs.Prelude.{◌≡◌, ◌≢◌, ℕ, ◌+◌, ◌-◌, ◌<◌, nat_lt, cond, List, Option, Some, None, IsSome}
use Rattle.std.specs.List.{slice_index_or}
use Rattle.cpe_name.specs.Eleven.{Values}
use Rattle.cpe_name.specs.Lower.{IsLower}
use Rattle.cpe_name.specs.Names.{any_values}

-- a name, how often it is held, and the number of its product
pub record Kept : Type 0 where
  pub name : Values
  pub holds : ℕ
  pub product : ℕ

abbrev pub kept : Values → ℕ → ℕ → Kept
kept name holds product = record { name = name; holds = holds; product = product }

-- what is kept of each number, by number; none if the number is not live
abbrev pub Names : Type 0
Names = List (Option Kept)

abbrev pub find_kept : Names → ℕ → Option Kept
find_kept names id = slice_index_or names id None

abbrev pub IsLive : Names → ℕ → Type 0
IsLive names id = IsSome (find_kept names id)

abbrev pub kept_or : Option Kept → Kept
kept_or None = kept any_values 0 0
kept_or (Some k) = k

-- what is kept of a live number
abbrev pub kept_at : Names → ℕ → Kept
kept_at names id = kept_or (find_kept names id)

-- The number is live, and has the name.
abbrev pub HasName : Names → ℕ → Values → Type 0
HasName names id name = (k : Kept) × (find_kept names id ≡ Some k) × (k.name ≡ name)

-- If a number wasn't live, it has the name with one hold. If it had the name, it has one hold more.
abbrev pub HoldsOnce : Option Kept → Values → Option Kept → Type 0
HoldsOnce None name after = (product : ℕ) × (after ≡ Some (kept name 1 product))
HoldsOnce (Some k) name after = (k.name ≡ name) × (after ≡ Some (kept k.name (k.holds + 1) k.product))

-- A name was held: its number has one hold more, and every other number is unchanged.
pub record HoldsName (old new : Names) (id : ℕ) (name : Values) : Type 0 where
  pub held : HoldsOnce (find_kept old id) name (find_kept new id)
  pub others : (other : ℕ) → other ≢ id → find_kept new other ≡ find_kept old other
  pub same : (other : ℕ) → HasName old other name → other ≡ id

-- what is kept with one hold less; none after the last hold
abbrev pub released : Option Kept → Option Kept
released None = None
released (Some k) = cond (nat_lt 1 k.holds) (Some (kept k.name (k.holds - 1) k.product)) None

pub record Releases (old new : Names) (id : ℕ) : Type 0 where
  pub dropped : find_kept new id ≡ released (find_kept old id)
  pub others : (other : ℕ) → other ≢ id → find_kept new other ≡ find_kept old other

-- What is true of every table.
pub record IsNameTable (names : Names) : Type 0 where
  pub lower : (id : ℕ) (k : Kept) → find_kept names id ≡ Some k → IsLower k.name
  pub held : (id : ℕ) (k : Kept) → find_kept names id ≡ Some k → 0 < k.holds
  pub different : (id other : ℕ) (k l : Kept) → find_kept names id ≡ Some k → find_kept names other ≡ Some l → k.name ≡ l.name → id ≡ other
  pub same_product : (id other : ℕ) (k l : Kept) → find_kept names id ≡ Some k → find_kept names other ≡ Some l → k.product ≡ l.product → k.name.product ≡ l.name.product
  pub one_number : (id other : ℕ) (k l : Kept) → find_kept names id ≡ Some k → find_kept names other ≡ Some l → k.name.product ≡ l.name.product → k.product ≡ l.product
