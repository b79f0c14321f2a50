-- The facts of both modes: their boards and their rows.
use Rattle.std.specs.Prelude.{◌≡◌, ℕ, ◌||◌, ◌&&◌, Bool, true, false, not, List}
use Rattle.std.specs.List.{list_any}
use Rattle.name_index.specs.declared.table.NameId.{NameId}
use Rattle.name_index.specs.Table.{Names, IsLive, kept_at}
use Rattle.fact_boards.specs.level_board.Board.{Board, FitsBoard, is_probe_marked}
use Rattle.cpe_rows.specs.Rows.{Rows}
use Rattle.cpe_rows.specs.Verdict.{fact_truth}
use Rattle.cpe_rows.specs.declared.entry.Entry.{Entry}
use Rattle.cpe_rows.specs.declared.statement.Mode.{Mode}
use Rattle.cpe_rows.specs.declared.statement.Mode.TheVariants.{Plain, Follow}
use Rattle.fact_laws.specs.Shown.{names_at}
use Rattle.fact_laws.specs.Asked.{leads, same_mode}
use Rattle.fact_boards.specs.Kept.{AreFactNames, AreSettled, Boards, ShowsRows}
use Rattle.fact_rows.specs.Facts.{AreLinkedFacts, truth_differs, FactTable, has_end_of_fact, is_fact, is_under_one, leads_of, truth_of_fact, users_of}
use Rattle.fact_rows.specs.ticket_list.Tickets.{is_empty}
use Rattle.facts.specs.Users.{AreTickets, users_in}

pub record FactsNow : Type 0 where
  pub boards : Boards
  pub plain : FactTable
  pub follow : FactTable

abbrev pub table_of : FactsNow → Mode → FactTable
table_of f Plain = f.plain
table_of f Follow = f.follow

-- some statement uses the fact
abbrev pub is_used : FactTable → ℕ → Bool
is_used t id = not (is_empty (users_of t id))

-- In a mode, the name of the fact leads to the names of these numbers.
pub record LeadsTo (table : Names) (entries : List Entry) (mode : Mode) (fact : ℕ) (numbers : List NameId) : Type 0 where
  pub live : AreFactNames table numbers
  pub names : names_at table numbers ≡ leads entries mode (kept_at table fact).name

-- The facts of one mode are those to which the statements of these rows refer, by these tickets. Those that don't pass have the
-- truth that the rows give their names.
pub record FactsBut (names : Names) (board : Board) (t : FactTable) (rows : Rows) (tickets : List ℕ) (mode : Mode) (passes : ℕ → Bool) : Type 0 where
  -- the board counts what the rows ask for and what they have, and fits the table of names
  pub shows : ShowsRows names board rows mode
  pub fits : FitsBoard board names
  -- each fact has a name, and as its users the tickets of the statements that refer to this name
  pub live : (id : ℕ) → is_fact t id ≡ true → IsLive names id
  pub users : (id : ℕ) → IsLive names id → users_of t id ≡ users_in mode (kept_at names id).name tickets rows.statements
  -- if it is in use it leads to the names to which its name leads; each end of it lists it
  pub leads_there : (id : ℕ) → is_used t id ≡ true → LeadsTo names rows.entries mode id (leads_of mode t id)
  pub linked : AreLinkedFacts t
  -- and it has the truth of its name
  pub truths : (id : ℕ) → is_used t id ≡ true → passes id ≡ false → truth_of_fact t id ≡ fact_truth rows mode (kept_at names id).name

abbrev pub FactsOf : Names → Board → FactTable → Rows → List ℕ → Mode → Type 0
FactsOf names board t rows tickets mode = FactsBut names board t rows tickets mode (λ id. false)

-- The facts of both modes are those of these rows; no name is marked, and each statement has a ticket.
pub record HasFacts (names : Names) (f : FactsNow) (rows : Rows) (tickets : List ℕ) : Type 0 where
  pub plain : FactsOf names f.boards.plain f.plain rows tickets Plain
  pub follow : FactsOf names f.boards.follow f.follow rows tickets Follow
  pub settled : AreSettled f.boards
  pub numbered : AreTickets tickets rows.statements

-- each fact is in use, except these of a mode
abbrev pub AreUsedBut : FactsNow → Mode → List NameId → Type 0
AreUsedBut f mode fresh = (m : Mode) (id : ℕ) → is_fact (table_of f m) id ≡ true → (is_used (table_of f m) id || (same_mode mode m && has_end_of_fact fresh id)) ≡ true

-- each fact is in use
abbrev pub AreUsed : FactsNow → Type 0
AreUsed f = (m : Mode) (id : ℕ) → is_fact (table_of f m) id ≡ true → is_used (table_of f m) id ≡ true

-- ---- changes

-- some name to which the fact leads is marked
abbrev pub is_touched : Mode → Board → FactTable → ℕ → Bool
is_touched mode board t id = list_any (λ (x : NameId). is_probe_marked board x.0) (leads_of mode t id)

-- the facts that lead to one of these names
abbrev pub found_from : Mode → FactTable → List NameId → ℕ → Bool
found_from Plain t names id = has_end_of_fact names id
found_from Follow t names id = is_under_one t names id

-- the changed facts are exactly those whose truth was replaced
abbrev pub AreChanges : FactTable → FactTable → Type 0
AreChanges old new = (id : ℕ) → has_end_of_fact new.changed id ≡ truth_differs (truth_of_fact old id) (truth_of_fact new id)
