-- The rows of facts by the numbers of their names.
use Rattle.std.specs.Prelude.{◌≡◌, ℕ, ◌&&◌, ◌||◌, Bool, false, not, cond, nat_eq, List, Option, Some, None}
use Rattle.std.specs.List.{sum_by}
use Rattle.std.specs.Map.{lookup, values_of}
use Rattle.cpe_rows.specs.Truth.{same_truth}
use Rattle.cpe_rows.specs.declared.truth.Truth.{Truth}
use Rattle.fact_rows.specs.declared.row.FactRow.{FactRow}

abbrev pub count_if : Bool → ℕ
count_if b = cond b 1 0

abbrev pub fact_row_at : List (ℕ × FactRow) → ℕ → Option FactRow
fact_row_at rows q = lookup (nat_eq q) rows

-- the row with this truth; its fact is in the list of changed ones if the truth differs
abbrev pub fact_row_with : Truth → FactRow → FactRow
fact_row_with truth r = record { ends = r.ends; users = r.users; truth = truth; changed = r.changed || not (same_truth r.truth truth) }

-- the truth differs, and the fact is not in the list of changed ones yet
abbrev pub is_news : Truth → FactRow → Bool
is_news truth r = not (same_truth r.truth truth) && not r.changed

-- the row says that its fact is in the list of changed ones
abbrev pub is_changed : Option FactRow → Bool
is_changed None = false
is_changed (Some r) = r.changed

-- the number of rows whose fact is not in that list
abbrev pub unchanged : List (ℕ × FactRow) → ℕ
unchanged rows = sum_by (λ (r : FactRow). count_if (not r.changed)) (values_of rows)

-- The same rows are in that list.
pub record KeepsChanged (old new : List (ℕ × FactRow)) : Type 0 where
  pub marks : (q : ℕ) → is_changed (fact_row_at new q) ≡ is_changed (fact_row_at old q)
  pub many : unchanged new ≡ unchanged old
