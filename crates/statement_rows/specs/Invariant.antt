-- How the fields of the rows belong together.
use Rattle.std.specs.Prelude.{◌≡◌, ◌≤◌, ◌<◌, ℕ, List, length, cond, map, vec_capacity}
use Rattle.std.specs.List.{AllByRecursion}
use Rattle.std.specs.Map.{lookup}
use Rattle.std.specs.Str.{bytes_eq}
use Rattle.std.proofs.Common.{Box, Vec, Global}
use Rattle.cpe_rows.specs.declared.test.CheckKey.{CheckKey}
use Rattle.cpe_rows.specs.declared.truth.Truth.{Truth}
use Rattle.check_results.specs.Kept.{IsCounted}
use Rattle.check_results.specs.Results.{one_or_none}
use Rattle.check_results.specs.ticket_list.Rising.{IsRisingBy}
use Rattle.statement_rows.specs.declared.row.NumberedStatement.{NumberedStatement}
use Rattle.statement_rows.specs.declared.row.JudgedRow.{JudgedRow}
use Rattle.statement_rows.specs.Askers.{askers_at}
use Rattle.statement_rows.specs.ByResult.{asks_one, each_result}
use Rattle.statement_rows.specs.Readings.{FactTruths, check_keys}
use Rattle.statement_rows.specs.Rows.{asks, each_verdict, has_row_id, is_changed, ticket_of, statement_tickets, verdict_by}
use Rattle.statement_rows.specs.State.{statements_of, view_of}

-- tickets rise from row to row; the list has the tickets of the changed rows, and room for those of all rows
pub record IsNoted (rows : List JudgedRow) (list : Vec ℕ Global) : Type 0 where
  pub rising : IsRisingBy ticket_of rows
  pub changed : list.items ≡ statement_tickets is_changed rows
  pub room : length rows ≤ vec_capacity list

-- the row knows whether its test asks for one check alone
abbrev pub IsAlone : JudgedRow → Type 0
IsAlone r = r.alone ≡ asks_one (check_keys r.numbered.value.statement.test)

-- The rows, and the lists and maps by which they are found, are those of each other.
pub record AreStatementRows (rows : List JudgedRow) (changed : Vec ℕ Global) (by_id : List (List ℕ × ℕ)) (askers : List (CheckKey × Vec ℕ Global)) (next : ℕ) : Type 0 where
  pub noted : IsNoted rows changed
  -- the next ticket is above all others
  pub below : AllByRecursion (λ r. ticket_of r < next) rows
  -- an id leads to the ticket of its row, and a check to those of the rows that ask for it
  pub ids : (id : List ℕ) → one_or_none (lookup (bytes_eq id) by_id) ≡ statement_tickets (has_row_id id) rows
  pub asked : (k : CheckKey) → askers_at askers k ≡ statement_tickets (asks k) rows
  pub alone : AllByRecursion IsAlone rows

-- the number of fact references is kept
abbrev pub AreFactsCounted : ℕ → List JudgedRow → Type 0
AreFactsCounted facts rows = IsCounted facts (statements_of (map view_of rows))

-- the row of a new statement, whose verdict is known
abbrev pub new_row : FactTruths → List (CheckKey × Truth) → ℕ → Box NumberedStatement Global → JudgedRow
new_row truth checks ticket h =
    let v = verdict_by truth checks h.value.statement h.value.ids.items in
    let one = asks_one (check_keys h.value.statement.test) in
    record { ticket = ticket; verdict = v; known = v; alone = one; by_result = cond one (each_verdict truth h.value.statement h.value.ids.items) (each_result (λ t. v)); numbered = h }
