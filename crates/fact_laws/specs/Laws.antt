-- Laws of counts of numbers, and of the lists of names that they show.
use Rattle.std.specs.Prelude.{◌≡◌, ◌++◌, ◌+◌, ◌≤◌, [], ℕ, List, Bool, true, length}
use Rattle.std.specs.List.{AllByRecursion, list_any}
use Rattle.cpe_rows.specs.cpe_name.Eleven.{Values}
use Rattle.name_index.specs.Elements.{SameElements}
use Rattle.name_index.specs.declared.table.NameId.{NameId}
use Rattle.name_index.specs.Table.{IsNameTable, IsLive, Names, kept_at}
use Rattle.fact_laws.specs.Shown.{names_at, Shows, times_in_list}

-- The changes of the list that counts of numbers show, and its relation to these counts.
pub record ListsAreShown : Type 0 where
  -- counts of 0 show the empty list
  pub empty : (names : Names) → Shows names (λ id. 0) []
  -- if numbers are added, their names are added to the list
  pub more : (names : Names) (old new : ℕ → ℕ) (numbers : List NameId) (list : List Values) → IsNameTable names → AllByRecursion (λ (x : NameId). IsLive names x.0) numbers
      → ((id : ℕ) → new id ≡ old id + times_in_list id numbers) → Shows names old list → Shows names new (names_at names numbers ++ list)
  -- if numbers are removed, their names are removed from the list
  pub fewer : (names : Names) (old new : ℕ → ℕ) (numbers : List NameId) (list : List Values) → IsNameTable names → AllByRecursion (λ (x : NameId). IsLive names x.0) numbers
      → ((id : ℕ) → new id + times_in_list id numbers ≡ old id) → Shows names old (names_at names numbers ++ list) → Shows names new list
  -- the list may have any order
  pub order : (names : Names) (times : ℕ → ℕ) (list other : List Values) → SameElements list other → Shows names times list → Shows names times other
  -- equal counts show the same list
  pub same : (names : Names) (old new : ℕ → ℕ) (list : List Values) → ((id : ℕ) → new id ≡ old id) → Shows names old list → Shows names new list
  -- the count of a number is at most the length of the list
  pub few : (names : Names) (times : ℕ → ℕ) (list : List Values) (id : ℕ) → Shows names times list → times id ≤ length list
  -- if the list begins with the names of some numbers, each has at least this count
  pub part : (names : Names) (times : ℕ → ℕ) (numbers : List NameId) (list : List Values) (id : ℕ) → IsNameTable names → AllByRecursion (λ (x : NameId). IsLive names x.0) numbers
      → Shows names times (names_at names numbers ++ list) → times_in_list id numbers ≤ times id
  -- if the name of a number with a count above 0 passes a test, a name of the list passes the test
  pub somewhere : (names : Names) (times : ℕ → ℕ) (list : List Values) (passes : Values → Bool) (id : ℕ) → Shows names times list → 1 ≤ times id → passes (kept_at names id).name ≡ true → list_any passes list ≡ true
  -- if a name of the list passes a test, so does the name of some number that is counted at least once
  pub passing : (names : Names) (times : ℕ → ℕ) (list : List Values) (passes : Values → Bool) → Shows names times list → list_any passes list ≡ true
      → (id : ℕ) × (1 ≤ times id) × (passes (kept_at names id).name ≡ true)
