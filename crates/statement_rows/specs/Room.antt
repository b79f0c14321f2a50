-- The memory for one more statement.
use Rattle.std.specs.Prelude.{◌≡◌, ℕ, Bool, true, List, Result, Ok, Err, OnOk, OnErr, IfOk}
use Rattle.std.proofs.Common.{Box, Vec, Global}
use Rattle.cpe_rows.specs.declared.statement.Statement.{Statement}
use Rattle.cpe_rows.specs.declared.test.CheckKey.{CheckKey}
use Rattle.statement_rows.specs.declared.ready_statement.ReadyStatement.{ReadyStatement}
use Rattle.statement_rows.specs.declared.row.NumberedStatement.{NumberedStatement}
use Rattle.statement_rows.specs.Askers.{AreAskers, AreAskedBut, HasPlace, askers_at}
use Rattle.statement_rows.specs.Readings.{check_keys, is_asked}
use Rattle.statement_rows.specs.State.{has_statement_room}

-- There is memory for the row and for its ticket in each list, and a copy of its id; or memory ran out.
pub record RowRoom {Fault : Type 0} (listed : Bool) (count capacity spare next : ℕ) (s : Statement) (old new : List (CheckKey × Vec ℕ Global)) (result : Result (List ℕ) Fault) : Type 0 where
  pub id : IfOk result (λ id. id ≡ s.id)
  pub room : OnOk result (has_statement_room listed count capacity spare next ≡ true)
  pub places : OnOk result ((k : CheckKey) → is_asked (check_keys s.test) k ≡ true → HasPlace new k)
  pub tickets : (k : CheckKey) → askers_at new k ≡ askers_at old k
  pub asked : AreAskers old → OnOk result (AreAskedBut (check_keys s.test) new)
  pub left : AreAskers old → OnErr result (AreAskers new)

-- the ready statement, if there was memory for it
abbrev pub with_id : {Fault : Type 0} → Box NumberedStatement Global → ℕ → Result (List ℕ) Fault → Result ReadyStatement Fault
with_id h t (Ok id) = Ok (record { numbered = h; id = id; ticket = t })
with_id h t (Err e) = Err e
