-- The tickets of the statements that ask for a check: a rising list for each key.
use Rattle.std.specs.Prelude.{◌≡◌, ◌||◌, ℕ, Bool, true, false, cond, length, nat_lt, vec_capacity, List, [], Option, Some, None}
use Rattle.std.specs.Map.{lookup}
use Rattle.std.proofs.Common.{Vec, Global}
use Rattle.cpe_rows.specs.Rows.{same_key}
use Rattle.cpe_rows.specs.declared.test.CheckKey.{CheckKey}
use Rattle.statement_rows.specs.Readings.{is_asked}
use Rattle.ticket_list.specs.Tickets.{ends_with, is_empty}

-- the tickets of a list, or none if there is no list
abbrev pub askers_or_none : Option (Vec ℕ Global) → List ℕ
askers_or_none None = []
askers_or_none (Some v) = v.items

-- the list that is kept for a check
abbrev pub asker_list_at : List (CheckKey × Vec ℕ Global) → CheckKey → Option (Vec ℕ Global)
asker_list_at es key = lookup (same_key key) es

-- the tickets that ask for a check
abbrev pub askers_at : List (CheckKey × Vec ℕ Global) → CheckKey → List ℕ
askers_at es key = askers_or_none (asker_list_at es key)

-- there is a list, and it has room for one more ticket
abbrev pub has_place : Option (Vec ℕ Global) → Bool
has_place None = false
has_place (Some v) = nat_lt (length v.items) (vec_capacity v)

-- the check has such a list
abbrev pub HasPlace : List (CheckKey × Vec ℕ Global) → CheckKey → Type 0
HasPlace es key = has_place (asker_list_at es key) ≡ true

-- the list can end with the ticket without more memory
abbrev pub may_enter : ℕ → Option (Vec ℕ Global) → Bool
may_enter t o = has_place o || ends_with t (askers_or_none o)

-- an empty list is removed
abbrev pub trim_list : Option (Vec ℕ Global) → Option (Vec ℕ Global)
trim_list None = None
trim_list (Some v) = cond (is_empty v.items) None (Some v)

-- the same if it is so, or else the list stays
abbrev pub trim_list_if : Bool → Option (Vec ℕ Global) → Option (Vec ℕ Global)
trim_list_if b o = cond b (trim_list o) o

-- if no statement asks for the check, no list is kept for it
abbrev pub IsAsked : List (CheckKey × Vec ℕ Global) → CheckKey → Type 0
IsAsked es key = askers_at es key ≡ [] → asker_list_at es key ≡ None

-- this holds for each check, except perhaps for these
abbrev pub AreAskedBut : List CheckKey → List (CheckKey × Vec ℕ Global) → Type 0
AreAskedBut keys es = (key : CheckKey) → is_asked keys key ≡ false → IsAsked es key

-- this holds for each check
abbrev pub AreAskers : List (CheckKey × Vec ℕ Global) → Type 0
AreAskers es = (key : CheckKey) → IsAsked es key
