-- The rows of statements, each with a ticket of its own, and how the verdicts of a row are computed.
use Rattle.std.specs.Prelude.{ℕ, zero, suc, Bool, true, false, not, cond, nat_eq, List, [], ◌∷◌, map, Option}
use Rattle.std.specs.List.{filter}
use Rattle.cpe_rows.specs.Rows.{has_id}
use Rattle.cpe_rows.specs.Truth.{same_truth}
use Rattle.cpe_rows.specs.declared.statement.Statement.{Statement}
use Rattle.cpe_rows.specs.declared.test.CheckKey.{CheckKey}
use Rattle.cpe_rows.specs.declared.truth.Truth.{Truth}
use Rattle.check_results.specs.Kept.{kept_truth}
use Rattle.name_index.specs.declared.table.NameId.{NameId}
use Rattle.check_results.specs.ticket_list.Rising.{put_in}
use Rattle.check_results.specs.ticket_list.TicketList.{has_ticket}
use Rattle.statement_rows.specs.declared.by_result.ByResult.{ByResult}
use Rattle.statement_rows.specs.declared.row.Cause.{Cause}
use Rattle.statement_rows.specs.declared.row.Cause.TheVariants.{Check, Fact}
use Rattle.statement_rows.specs.declared.row.JudgedRow.{JudgedRow}
use Rattle.statement_rows.specs.ByResult.{at_result, each_result, truth_with}
use Rattle.statement_rows.specs.Readings.{FactTruths, check_keys, is_asked, reading, truths_of}
use Rattle.statement_rows.specs.Tickets.{among, first_place}
use Rattle.ticket_list.specs.Tickets.{without}

-- the verdict of a statement whose fact references have these numbers
abbrev pub verdict_by : FactTruths → List (CheckKey × Truth) → Statement → List NameId → Truth
verdict_by truth checks s ids = (reading (kept_truth checks) s.test (truths_of truth s.mode ids)).0

-- its verdicts for each result that all of its checks may have
abbrev pub each_verdict : FactTruths → Statement → List NameId → ByResult
each_verdict truth s ids = each_result (truth_with s.test (truths_of truth s.mode ids))

-- the verdict of the statement of a row
abbrev pub verdict_now : FactTruths → List (CheckKey × Truth) → JudgedRow → Truth
verdict_now truth checks r = verdict_by truth checks r.numbered.value.statement r.numbered.value.ids.items

-- the ticket of a row
abbrev pub ticket_of : JudgedRow → ℕ
ticket_of r = r.ticket

-- the verdict differs from the known one
abbrev pub is_changed : JudgedRow → Bool
is_changed r = not (same_truth r.verdict r.known)

-- the row has this id
abbrev pub has_row_id : List ℕ → JudgedRow → Bool
has_row_id id r = has_id id r.numbered.value.statement

-- the row asks for the check
abbrev pub asks : CheckKey → JudgedRow → Bool
asks key r = is_asked (check_keys r.numbered.value.statement.test) key

-- the tickets of the rows that pass
abbrev pub statement_tickets : (JudgedRow → Bool) → List JudgedRow → List ℕ
statement_tickets p rows = map ticket_of (filter p rows)

-- the place of the row of a ticket
abbrev pub ticket_place_in : ℕ → List JudgedRow → Option ℕ
ticket_place_in t rows = first_place (has_ticket ticket_of t) rows

-- the element at a place is changed
abbrev pub at_place : {X : Type 0} → ℕ → (X → X) → List X → List X
at_place k f [] = []
at_place zero f (x ∷ xs) = f x ∷ xs
at_place (suc k) f (x ∷ xs) = x ∷ at_place k f xs

-- the row of the ticket is changed
abbrev pub at_ticket : ℕ → (JudgedRow → JudgedRow) → List JudgedRow → List JudgedRow
at_ticket t f rows = map (λ r. cond (nat_eq t r.ticket) (f r) r) rows

-- the rows of these tickets are changed
abbrev pub at_rows : List ℕ → (JudgedRow → JudgedRow) → List JudgedRow → List JudgedRow
at_rows ts f rows = map (λ r. cond (among ts r.ticket) (f r) r) rows

-- after a result, a row that asks for that check alone has its verdict by the result
abbrev pub verdict_after : Cause → FactTruths → List (CheckKey × Truth) → JudgedRow → Truth
verdict_after (Check t) truth checks r = cond r.alone (at_result r.by_result t) (verdict_now truth checks r)
verdict_after Fact truth checks r = verdict_now truth checks r

-- after a new truth of a fact, a row that asks for one check alone has new verdicts for each result
abbrev pub by_result_after : Cause → FactTruths → JudgedRow → ByResult
by_result_after (Check t) truth r = r.by_result
by_result_after Fact truth r = cond r.alone (each_verdict truth r.numbered.value.statement r.numbered.value.ids.items) r.by_result

-- the row is judged
abbrev pub judge_row : Cause → FactTruths → List (CheckKey × Truth) → JudgedRow → JudgedRow
judge_row cause truth checks r = record r { verdict = verdict_after cause truth checks r; by_result = by_result_after cause truth r }

-- its verdict is now the known one
abbrev pub forget_change : JudgedRow → JudgedRow
forget_change r = record r { known = r.verdict }

-- the tickets of the changed rows, where one row was changed `before` or not, and is changed `after` or not
abbrev pub after_move : Bool → Bool → ℕ → List ℕ → List ℕ
after_move false true t ts = put_in t ts
after_move true false t ts = without t ts
after_move true true t ts = ts
after_move false false t ts = ts
