-- The users of a fact: the tickets of the statements that refer to its name.
use Rattle.std.specs.List.{AllByRecursion}
use Rattle.std.specs.Prelude.{◌≡◌, ◌<◌, ℕ, cond, length, List, [], ◌∷◌, Option, Some, None}
use Rattle.cpe_rows.specs.cpe_name.Eleven.{Values}
use Rattle.cpe_rows.specs.Rows.{has_id}
use Rattle.cpe_rows.specs.declared.statement.Mode.{Mode}
use Rattle.cpe_rows.specs.declared.statement.Statement.{Statement}
use Rattle.fact_rows.specs.ticket_list.Rising.{IsRising}
use Rattle.fact_laws.specs.Asked.{refers_to}

-- the tickets of those statements of a mode that refer to a name
abbrev pub users_in : Mode → Values → List ℕ → List Statement → List ℕ
users_in mode n [] statements = []
users_in mode n (t ∷ tickets) [] = []
users_in mode n (t ∷ tickets) (s ∷ statements) = cond (refers_to mode n s) (t ∷ users_in mode n tickets statements) (users_in mode n tickets statements)

-- the ticket of the first statement with an id
abbrev pub statement_ticket : List ℕ → List ℕ → List Statement → Option ℕ
statement_ticket id [] statements = None
statement_ticket id (t ∷ tickets) [] = None
statement_ticket id (t ∷ tickets) (s ∷ statements) = cond (has_id id s) (Some t) (statement_ticket id tickets statements)

-- Each statement has a ticket, and tickets rise.
pub record AreTickets (tickets : List ℕ) (statements : List Statement) : Type 0 where
  pub each : length tickets ≡ length statements
  pub rising : IsRising tickets

-- all are below the ticket
abbrev pub AreBelow : ℕ → List ℕ → Type 0
AreBelow ticket tickets = AllByRecursion (λ (t : ℕ). t < ticket) tickets
