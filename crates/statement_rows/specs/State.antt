-- What contracts see of the rows of statements (NIST IR 7698).
use Rattle.std.specs.Prelude.{◌≡◌, ◌&&◌, ◌++◌, ◌+◌, ℕ, suc, Bool, true, false, not, cond, map, nat_lt, option_map, slice_get, List, [], ◌∷◌, Result, OnOk, OnErr, IfOk}
use Rattle.std.specs.List.{AllByRecursion, list_any}
use Rattle.std.proofs.Common.{Vec, Global}
use Rattle.cpe_rows.specs.FactNames.{number_of_facts}
use Rattle.cpe_rows.specs.Limits.{most}
use Rattle.cpe_rows.specs.Rows.{has_id}
use Rattle.cpe_rows.specs.declared.fault.Which.TheVariants as which
use Rattle.cpe_rows.specs.Changes.{change}
use Rattle.cpe_rows.specs.Truth.{same_truth}
use Rattle.cpe_rows.specs.declared.reply.Changed.{Changed}
use Rattle.cpe_rows.specs.declared.statement.Mode.{Mode}
use Rattle.cpe_rows.specs.declared.statement.Statement.{Statement}
use Rattle.cpe_rows.specs.declared.test.CheckKey.{CheckKey}
use Rattle.cpe_rows.specs.declared.truth.Truth.{Truth}
use Rattle.check_results.specs.Results.{ChecksNow, IsReadyCheck as IsReadyFor}
use Rattle.check_results.specs.declared.ready_result.ReadyResult.{ReadyResult}
use Rattle.name_index.specs.declared.table.NameId.{NameId}
use Rattle.statement_rows.specs.declared.by_result.ByResult.{ByResult}
use Rattle.statement_rows.specs.declared.fact_use.FactUse.{FactUse}
use Rattle.statement_rows.specs.declared.row.JudgedRow.{JudgedRow}
use Rattle.statement_rows.specs.declared.ready_statement.ReadyStatement.{ReadyStatement}
use Rattle.statement_rows.specs.Askers.{AreAskers, AreAskedBut, HasPlace, askers_at}
use Rattle.statement_rows.specs.ByResult.{asks_one, each_result}
use Rattle.statement_rows.specs.Readings.{FactTruths, check_keys, is_asked}
use Rattle.statement_rows.specs.Rows.{each_verdict, verdict_by}
use Rattle.statement_rows.specs.Tickets.{among}

-- a statement, the numbers of its fact references, its ticket, its verdict, and the verdict that callers know; and its verdict for
-- each result of its check, if it asks for one check alone
pub record StatementRow : Type 0 where
  pub statement : Statement
  pub ids : List NameId
  pub ticket : ℕ
  pub verdict : Truth
  pub known : Truth
  pub by_result : ByResult

-- the statements, the results of checks, the tickets that ask for each check, the next ticket, and whether there is memory for one
-- more statement, and for one more result
pub record State : Type 0 where
  pub rows : List StatementRow
  pub checks : List (CheckKey × Truth)
  pub askers : List (CheckKey × Vec ℕ Global)
  pub next : ℕ
  pub ready : Bool
  pub result_room : Bool

-- what contracts see of a row
abbrev pub view_of : JudgedRow → StatementRow
view_of r = record { statement = r.numbered.value.statement; ids = r.numbered.value.ids.items; ticket = r.ticket; verdict = r.verdict; known = r.known; by_result = r.by_result }

-- the largest number of 64 bits, which no statement gets
abbrev pub last_statement_ticket : ℕ
last_statement_ticket = 18446744073709551615

-- there is room for one more row, for its ticket among those of the changed rows, and for its id; and there is a ticket for it
abbrev pub has_statement_room : Bool → ℕ → ℕ → ℕ → ℕ → Bool
has_statement_room listed count capacity spare next = listed && (nat_lt count capacity && (nat_lt 0 spare && nat_lt next last_statement_ticket))

-- the statements of rows
abbrev pub statements_of : List StatementRow → List Statement
statements_of rows = map (λ j. j.statement) rows

-- the row has this id
abbrev pub is_of : List ℕ → StatementRow → Bool
is_of id j = has_id id j.statement

-- ---- verdicts

-- the row gets the verdict that its test has by these truths of facts and these results
abbrev pub judge : FactTruths → List (CheckKey × Truth) → StatementRow → StatementRow
judge truth checks j = record j { verdict = verdict_by truth checks j.statement j.ids; by_result = cond (asks_one (check_keys j.statement.test)) (each_verdict truth j.statement j.ids) j.by_result }

-- the rows of these tickets are changed
abbrev pub at_tickets : List ℕ → (StatementRow → StatementRow) → List StatementRow → List StatementRow
at_tickets ts f rows = map (λ j. cond (among ts j.ticket) (f j) j) rows

-- each row has the verdict that it gets by these truths
abbrev pub AreJudged : State → FactTruths → Type 0
AreJudged b truth = AllByRecursion (λ j. judge truth b.checks j ≡ j) b.rows

-- ---- what calls keep

-- its verdict is now the known one
abbrev pub forget_row_change : StatementRow → StatementRow
forget_row_change j = record j { known = j.verdict }

-- all of a row that a new truth or a new result leaves as it is
abbrev pub without_verdict : StatementRow → Statement × List NameId × ℕ × Truth
without_verdict j = (j.statement, j.ids, j.ticket, j.known)

-- the lists of askers, the next ticket and the room are the same
pub record SameRoom (old new : State) : Type 0 where
  pub askers : new.askers ≡ old.askers
  pub next : new.next ≡ old.next
  pub ready : new.ready ≡ old.ready

-- all is the same, except perhaps the room
pub record SameRows (old new : State) : Type 0 where
  pub rows : new.rows ≡ old.rows
  pub checks : new.checks ≡ old.checks
  pub next : new.next ≡ old.next
  pub askers : (k : CheckKey) → askers_at new.askers k ≡ askers_at old.askers k

-- all is the same, except perhaps whether there is memory for one more result
abbrev pub SameButResultRoom : State → State → Type 0
SameButResultRoom old new = new ≡ record old { result_room = new.result_room }

-- which facts a statement uses: its mode and its numbers, with its ticket
abbrev pub use_of : StatementRow → Mode × List NameId × ℕ
use_of j = (j.statement.mode, j.ids, j.ticket)

-- the same, of what a call returns
abbrev pub use_in : FactUse → Mode × List NameId × ℕ
use_in u = (u.mode, u.ids.items, u.ticket)

-- the verdict differs from the known one
abbrev pub has_changed : StatementRow → Bool
has_changed j = not (same_truth j.verdict j.known)

-- the places of the elements that pass, counted from n
abbrev pub places_where : {X : Type 0} → (X → Bool) → ℕ → List X → List ℕ
places_where p n [] = []
places_where p n (x ∷ xs) = cond (p x) (n ∷ places_where p (suc n) xs) (places_where p (suc n) xs)

-- the places of the statements whose verdict differs from the known one, rising
abbrev pub changed_places : State → List ℕ
changed_places b = places_where has_changed 0 b.rows

-- the known verdict and the present one of the statement at a place
abbrev pub change_at : State → ℕ → Changed
change_at b k = change k (option_map (λ j. j.known) (slice_get b.rows k)) (option_map (λ j. j.verdict) (slice_get b.rows k))

-- ---- one more statement

-- all memory is taken for this statement, which has these numbers
pub record IsReadyRow (b : State) (s : Statement) (ids : List NameId) (r : ReadyStatement) : Type 0 where
  pub numbered : (r.numbered.value.statement ≡ s) × (r.numbered.value.ids.items ≡ ids)
  pub id : r.id ≡ s.id
  pub new : list_any (is_of s.id) b.rows ≡ false
  pub few : nat_lt (most which.Facts) (number_of_facts (statements_of b.rows ++ s ∷ [])) ≡ false
  -- its ticket is the next one, and there is room for the row, its id, and its ticket among those of the changed rows
  pub ticket : (r.ticket ≡ b.next) × (b.ready ≡ true)
  -- each check for which it asks has a list with room for its ticket
  pub keys : (k : CheckKey) → is_asked (check_keys s.test) k ≡ true → HasPlace b.askers k

-- A statement was made ready, or memory ran out.
pub record StatementReady {Fault : Type 0} (old new : State) (s : Statement) (ids : List NameId) (result : Result ReadyStatement Fault) : Type 0 where
  pub same : SameRows old new
  pub ready : IfOk result (IsReadyRow new s ids)
  -- if a check has a list for which no statement asks, the ready statement asks for it
  pub asked : AreAskers old.askers → OnOk result (AreAskedBut (check_keys s.test) new.askers)
  -- without memory no check has such a list
  pub left : AreAskers old.askers → OnErr result (AreAskers new.askers)

-- the row of a new statement, whose verdict is known
abbrev pub new_statement_row : FactTruths → State → Statement → List NameId → StatementRow
new_statement_row truth b s ids =
    let v = verdict_by truth b.checks s ids in
    record { statement = s; ids = ids; ticket = b.next; verdict = v; known = v; by_result = cond (asks_one (check_keys s.test)) (each_verdict truth s ids) (each_result (λ t. v)) }

-- The statement is the last one, and has its verdict.
pub record StatementStored (old new : State) (s : Statement) (ids : List NameId) (truth : FactTruths) : Type 0 where
  pub rows : new.rows ≡ old.rows ++ new_statement_row truth old s ids ∷ []
  pub checks : new.checks ≡ old.checks
  pub next : new.next ≡ old.next + 1
  pub asked : AreAskedBut (check_keys s.test) old.askers → AreAskers new.askers
  pub judged : AreJudged old truth → AreJudged new truth

-- ---- a result

-- the results of checks, and whether there is memory for one more
abbrev pub checks_of : State → ChecksNow
checks_of b = record { list = b.checks; ready = b.result_room }

-- all memory is taken for a result of this key
abbrev pub IsReadyTruth : State → CheckKey → ReadyResult → Type 0
IsReadyTruth b k r = IsReadyFor (checks_of b) k r
