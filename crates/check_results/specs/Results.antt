-- The kept results of checks: each has a ticket, and a map has the ticket of each key.
use Rattle.std.specs.Prelude.{◌≡◌, ◌<◌, ◌&&◌, ℕ, Bool, true, false, List, [], ◌∷◌, map, nat_lt, Option, Some, None}
use Rattle.std.specs.List.{AllByRecursion, filter, list_any}
use Rattle.std.specs.Map.{lookup}
use Rattle.cpe_rows.specs.Rows.{has_key, same_key}
use Rattle.cpe_rows.specs.declared.test.CheckKey.{CheckKey}
use Rattle.cpe_rows.specs.declared.truth.Truth.{Truth}
use Rattle.check_results.specs.declared.kept.ResultRow.{ResultRow}
use Rattle.check_results.specs.declared.ready_result.ReadyResult.{ReadyResult}

-- each key with its result, and whether there is room for one more result
pub record ChecksNow : Type 0 where
  pub list : List (CheckKey × Truth)
  pub ready : Bool

abbrev pub result_ticket : ResultRow → ℕ
result_ticket r = r.ticket

-- the result belongs to the key
abbrev pub is_for : CheckKey → ResultRow → Bool
is_for k r = same_key k r.key

-- the result with another truth
abbrev pub retold : Truth → ResultRow → ResultRow
retold t r = record r { truth = t }

-- the key and the truth of a result, as contracts see it
abbrev pub seen : ResultRow → CheckKey × Truth
seen r = (r.key, r.truth)

abbrev pub one_or_none : Option ℕ → List ℕ
one_or_none None = []
one_or_none (Some t) = t ∷ []

-- the tickets of the results that pass the test
abbrev pub result_tickets : (ResultRow → Bool) → List ResultRow → List ℕ
result_tickets passes results = map result_ticket (filter passes results)

-- the next ticket is above all tickets, and the map has, for each key, the ticket of its only result
pub record AreLawfulResults (results : List ResultRow) (by_key : List (CheckKey × ℕ)) (next : ℕ) : Type 0 where
  pub below : AllByRecursion (λ r. result_ticket r < next) results
  pub found : (k : CheckKey) → one_or_none (lookup (same_key k) by_key) ≡ result_tickets (is_for k) results

-- ---- the memory for one more result

-- the largest number of 64 bits, which is never a result's ticket
abbrev pub last_result_ticket : ℕ
last_result_ticket = 18446744073709551615

-- there is room for one more result and its key, and there is a ticket left
abbrev pub has_result_room : Bool → ℕ → ℕ → Bool
has_result_room listed spare next = listed && (nat_lt 0 spare && nat_lt next last_result_ticket)

-- All memory for a result of this key is allocated.
pub record IsReadyCheck (c : ChecksNow) (k : CheckKey) (r : ReadyResult) : Type 0 where
  pub key : r.key ≡ k
  -- if the key is new, `r` has a copy of the key, and there is room for the result
  pub new : list_any (has_key k) c.list ≡ false → (r.copy ≡ Some k) × (c.ready ≡ true)
