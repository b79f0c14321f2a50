-- Facts as contracts see them.
use Rattle.std.specs.Prelude.{◌≡◌, ◌≢◌, ℕ, ◌+◌, ◌≤◌, Bool, true, false, not, cond, nat_eq, nat_lt, is_some, length, List, [], ◌∷◌, ◌++◌, Option, Some, None, vec_capacity}
use Rattle.std.specs.List.{list_any, sum_by}
use Rattle.std.specs.Option.{option_map}
use Rattle.std.specs.Map.{lookup}
use Rattle.std.proofs.Common.{Vec, Global}
use Rattle.name_index.specs.declared.table.NameId.{NameId}
use Rattle.cpe_rows.specs.Truth.{same_truth}
use Rattle.cpe_rows.specs.declared.statement.Mode.{Mode}
use Rattle.cpe_rows.specs.declared.statement.Mode.TheVariants.{Plain, Follow}
use Rattle.cpe_rows.specs.declared.truth.Truth.{Truth}
use Rattle.cpe_rows.specs.declared.truth.Truth.TheVariants.{Unknown}
use Rattle.fact_rows.specs.declared.row.FactRow.{FactRow}
use Rattle.fact_rows.specs.Rows.{is_changed, count_if, fact_row_at, unchanged}

-- A fact (NIST IR 7698): its ends, the tickets that use it, its truth, and whether it has room for one more user.
pub record Fact : Type 0 where
  pub ends : List NameId
  pub users : List ℕ
  pub truth : Truth
  pub room : Bool

-- All rows, the facts of each end, and the facts whose truth was replaced.
pub record FactTable : Type 0 where
  pub rows : List (ℕ × FactRow)
  pub by_end : List (ℕ × Vec NameId Global)
  pub changed : List NameId

abbrev pub fact_name_id : ℕ → NameId
fact_name_id number = record { 0 = number }

-- ---- a row

abbrev pub seen_fact : FactRow → Fact
seen_fact r = record { ends = r.ends.items; users = r.users.items; truth = r.truth; room = nat_lt (length r.users.items) (vec_capacity r.users) }

abbrev pub fact_row_in : List (ℕ × FactRow) → ℕ → Option Fact
fact_row_in rows q = option_map seen_fact (fact_row_at rows q)

abbrev pub ends_or_none : Option Fact → List NameId
ends_or_none None = []
ends_or_none (Some f) = f.ends

abbrev pub users_or_none : Option Fact → List ℕ
users_or_none None = []
users_or_none (Some f) = f.users

abbrev pub truth_or_unknown : Option Fact → Truth
truth_or_unknown None = Unknown
truth_or_unknown (Some f) = f.truth

abbrev pub room_or_none : Option Fact → Bool
room_or_none None = false
room_or_none (Some f) = f.room

-- the fact without its truth
abbrev pub without_truth : Fact → Fact
without_truth f = record { ends = f.ends; users = f.users; truth = Unknown; room = f.room }

abbrev pub with_ends : List NameId → Fact → Fact
with_ends ends f = record { ends = ends; users = f.users; truth = f.truth; room = f.room }

-- a fact with these ends and without users, with room for one
abbrev pub new_fact : List NameId → Fact
new_fact ends = record { ends = ends; users = []; truth = Unknown; room = true }

-- to which names a fact with these ends leads: to itself in mode plain, and to its ends in mode follow
abbrev pub leads_by : Mode → ℕ → List NameId → List NameId
leads_by Plain q ends = fact_name_id q ∷ []
leads_by Follow q ends = ends

-- ---- the facts of ends

-- one of these names has the number
abbrev pub has_end_of_fact : List NameId → ℕ → Bool
has_end_of_fact ids q = list_any (λ (id : NameId). nat_eq id.0 q) ids

-- how many of these names have the number
abbrev pub times_among : List NameId → ℕ → ℕ
times_among ids q = sum_by (λ (id : NameId). count_if (nat_eq id.0 q)) ids

-- the list with a name, which is appended unless it is there
abbrev pub with_end : NameId → List NameId → List NameId
with_end id ids = cond (has_end_of_fact ids id.0) ids (ids ++ id ∷ [])

abbrev pub facts_or_none : Option (Vec NameId Global) → List NameId
facts_or_none None = []
facts_or_none (Some v) = v.items

abbrev pub facts_of_end : List (ℕ × Vec NameId Global) → ℕ → List NameId
facts_of_end es e = facts_or_none (lookup (nat_eq e) es)

-- no list is empty
abbrev pub NoneIsEmpty : List (ℕ × Vec NameId Global) → Type 0
NoneIsEmpty es = (e : ℕ) → facts_of_end es e ≡ [] → lookup (nat_eq e) es ≡ None

-- no end lists a fact twice
abbrev pub AreOnce : List (ℕ × Vec NameId Global) → Type 0
AreOnce es = (e q : ℕ) → times_among (facts_of_end es e) q ≤ 1

-- each of these ends lists the fact
abbrev pub IsUnder : (ℕ → List NameId) → ℕ → List NameId → Type 0
IsUnder facts q ends = (e : ℕ) → has_end_of_fact ends e ≡ true → has_end_of_fact (facts e) q ≡ true

-- none of these ends lists the fact
abbrev pub IsUnderNone : (ℕ → List NameId) → ℕ → List NameId → Type 0
IsUnderNone facts q ends = (e : ℕ) → has_end_of_fact ends e ≡ true → has_end_of_fact (facts e) q ≡ false

-- no end loses a fact
abbrev pub KeepsLinks : (ℕ → List NameId) → (ℕ → List NameId) → Type 0
KeepsLinks old new = (e q : ℕ) → has_end_of_fact (old e) q ≡ true → has_end_of_fact (new e) q ≡ true

-- each end lists the same other facts
abbrev pub SameOthers : ℕ → (ℕ → List NameId) → (ℕ → List NameId) → Type 0
SameOthers fact old new = (e q : ℕ) → q ≢ fact → has_end_of_fact (new e) q ≡ has_end_of_fact (old e) q

-- the facts of all other ends are unchanged
abbrev pub SameElsewhere : List NameId → (ℕ → List NameId) → (ℕ → List NameId) → Type 0
SameElsewhere ends old new = (e : ℕ) → has_end_of_fact ends e ≡ false → new e ≡ old e

-- ---- a table

abbrev pub fact_at : FactTable → ℕ → Option Fact
fact_at t q = fact_row_in t.rows q

-- the number is that of a fact
abbrev pub is_fact : FactTable → ℕ → Bool
is_fact t q = is_some (fact_at t q)

abbrev pub ends_of_fact : FactTable → ℕ → List NameId
ends_of_fact t q = ends_or_none (fact_at t q)

abbrev pub users_of : FactTable → ℕ → List ℕ
users_of t q = users_or_none (fact_at t q)

abbrev pub truth_of_fact : FactTable → ℕ → Truth
truth_of_fact t q = truth_or_unknown (fact_at t q)

-- to add a user to the fact takes no memory
abbrev pub has_fact_room : FactTable → ℕ → Bool
has_fact_room t q = room_or_none (fact_at t q)

-- to which names a fact leads in a mode
abbrev pub leads_of : Mode → FactTable → ℕ → List NameId
leads_of mode t q = leads_by mode q (ends_of_fact t q)

-- the facts of an end, in any order
abbrev pub facts_with_end : FactTable → ℕ → List NameId
facts_with_end t e = facts_of_end t.by_end e

-- one of these ends lists the fact
abbrev pub is_under_one : FactTable → List NameId → ℕ → Bool
is_under_one t ends q = list_any (λ (id : NameId). has_end_of_fact (facts_with_end t id.0) q) ends

-- each end of a fact lists it
abbrev pub AreLinkedFacts : FactTable → Type 0
AreLinkedFacts t = (q : ℕ) → IsUnder (facts_with_end t) q (ends_of_fact t q)

-- all other facts are unchanged
abbrev pub OthersStay : ℕ → FactTable → FactTable → Type 0
OthersStay fact old new = (q : ℕ) → q ≢ fact → fact_at new q ≡ fact_at old q

-- two truths differ
abbrev pub truth_differs : Truth → Truth → Bool
truth_differs a b = not (same_truth a b)

-- ---- what holds of every table

-- The list has each fact whose row says so, once, and it has room for each of the others.
pub record IsChangeList (rows : List (ℕ × FactRow)) (changed : Vec NameId Global) : Type 0 where
  pub marks : (q : ℕ) → times_among changed.items q ≡ count_if (is_changed (fact_row_at rows q))
  pub room : unchanged rows + length changed.items ≤ vec_capacity changed

-- No list of facts is empty, and none has a fact twice.
pub record AreFactLists (by_end : List (ℕ × Vec NameId Global)) : Type 0 where
  pub tight : NoneIsEmpty by_end
  pub once : AreOnce by_end

pub record IsTable (rows : List (ℕ × FactRow)) (by_end : List (ℕ × Vec NameId Global)) (changed : Vec NameId Global) : Type 0 where
  pub lists : AreFactLists by_end
  pub changes : IsChangeList rows changed
