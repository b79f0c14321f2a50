-- What a statement adds to the facts, and the memory for it.
use Rattle.std.specs.Prelude.{◌≡◌, ◌≤◌, ◌∷◌, ◌++◌, [], ℕ, true, false, not, List, length, filter}
use Rattle.std.specs.List.{flat_map}
use Rattle.name_index.specs.declared.table.NameId.{NameId}
use Rattle.name_index.specs.Table.{Names}
use Rattle.name_index.specs.step_count.Within.{StepsWithin}
use Rattle.cpe_rows.specs.After.{after}
use Rattle.cpe_rows.specs.Rows.{Rows}
use Rattle.cpe_rows.specs.Verdict.{verdict}
use Rattle.cpe_rows.specs.declared.edit.Edit.TheVariants as edit
use Rattle.cpe_rows.specs.declared.entry.Entry.{Entry}
use Rattle.cpe_rows.specs.declared.statement.Mode.{Mode}
use Rattle.cpe_rows.specs.declared.statement.Statement.{Statement}
use Rattle.facts.specs.fact_laws.Shown.{one_if_some, times_in_list}
use Rattle.fact_boards.specs.Kept.{board_of_mode}
use Rattle.fact_boards.specs.Lists.{IsWide}
use Rattle.facts.specs.fact_rows.Facts.{FactTable, has_end_of_fact, has_fact_room, is_fact, leads_of, users_of}
use Rattle.facts.specs.Calls.{HasStatementRoom, IsNewStatement}
use Rattle.facts.specs.Facts.{AreUsedBut, FactsNow, HasFacts, is_used, LeadsTo, table_of}
use Rattle.facts.specs.Looks.{statement_looks}
use Rattle.statement_rows.specs.Askers.{AreAskedBut}
use Rattle.statement_rows.specs.Readings.{check_keys}
use Rattle.statement_rows.specs.State.{IsReadyRow}
use Rattle.verdicts.specs.Verdicts.{HasVerdicts, HasVerdictsBy, known_in, statements_in, tickets_in, VerdictsNow}
use Rattle.verdicts.specs.declared.addition.Addition.{Addition}

-- ---- facts that no statement uses yet

-- These are the facts among the numbers that no statement uses, each once.
abbrev pub AreFresh : FactTable → List NameId → List NameId → Type 0
AreFresh t ids fresh = (q : ℕ) → times_in_list q fresh ≡ one_if_some (times_in_list q (filter (λ (x : NameId). not (is_used t x.0)) ids))

-- Facts of a mode may have been added that no statement uses: these, or some of them.
pub record FreshBeside (old new : FactsNow) (table : Names) (mode : Mode) (fresh : List NameId) : Type 0 where
  pub facts : (rows : Rows) (tickets : List ℕ) → HasFacts table old rows tickets → HasFacts table new rows tickets
  pub users : (q : ℕ) → users_of (table_of new mode) q ≡ users_of (table_of old mode) q
  pub used : (before : List NameId) → AreUsedBut old mode before → AreUsedBut new mode (fresh ++ before)
  pub changed : (table_of new mode).changed ≡ (table_of old mode).changed

-- They are facts, and each leads to the names to which its name leads.
pub record AreAdded (f : FactsNow) (table : Names) (entries : List Entry) (mode : Mode) (fresh : List NameId) : Type 0 where
  pub there : (q : ℕ) → has_end_of_fact fresh q ≡ true → is_fact (table_of f mode) q ≡ true
  pub leads_there : (q : ℕ) → has_end_of_fact fresh q ≡ true → LeadsTo table entries mode q (leads_of mode (table_of f mode) q)

-- There is room on the board of a mode for names that will be asked.
pub record HasAskedRoom (f : FactsNow) (table : Names) (mode : Mode) (asked : List NameId) : Type 0 where
  pub few : length asked ≤ 268435456
  pub wide : IsWide (board_of_mode f.boards mode) table
  pub room : length asked ≤ (board_of_mode f.boards mode).probe_room

-- The facts are ready for a statement with these numbers: its fresh facts lead to the names asked, and there is room for all.
pub record AreReady (f : FactsNow) (table : Names) (entries : List Entry) (mode : Mode) (ids fresh asked : List NameId) : Type 0 where
  pub leads_there : (q : ℕ) → has_end_of_fact fresh q ≡ true → LeadsTo table entries mode q (leads_of mode (table_of f mode) q)
  pub asked_there : asked ≡ flat_map (λ (x : NameId). leads_of mode (table_of f mode) x.0) fresh
  pub room_users : (q : ℕ) → has_end_of_fact ids q ≡ true → has_fact_room (table_of f mode) q ≡ true
  pub room : HasAskedRoom f table mode asked

-- ---- an addition

-- Nothing is kept that no statement needs, except what an addition of this statement needs.
pub record AreNeededBut (v : VerdictsNow) (s : Statement) (fresh : List NameId) : Type 0 where
  pub facts : AreUsedBut v.facts s.mode fresh
  pub askers : AreAskedBut (check_keys s.test) v.statements.askers

-- Verdicts are those of the rows, and an addition of this statement is ready.
abbrev pub HasVerdictsBeside : Names → VerdictsNow → Rows → Statement → Addition → Type 0
HasVerdictsBeside names v rows s a = HasVerdictsBy (AreNeededBut v s a.fresh.items) names v rows

-- An addition has all memory for a statement with these numbers. By these entries, the facts that it adds lead to the names asked.
pub record IsAddition (v : VerdictsNow) (table : Names) (entries : List Entry) (s : Statement) (ids : List NameId) (a : Addition) : Type 0 where
  pub row : IsReadyRow v.statements s ids a.statement
  pub room : HasStatementRoom v.facts table s.mode ids a.fresh.items a.asked.items a.statement.ticket
  pub new : (rows : Rows) → rows.entries ≡ entries → rows.statements ≡ statements_in v → IsNewStatement v.facts table rows (tickets_in v.statements.rows) s s.mode ids a.fresh.items a.asked.items a.statement.ticket
  -- the facts that it adds have no user yet, and are none of the changed ones
  pub unused : (q : ℕ) → has_end_of_fact a.fresh.items q ≡ true → users_of (table_of v.facts s.mode) q ≡ []
  pub unchanged : (q : ℕ) → has_end_of_fact a.fresh.items q ≡ true → has_end_of_fact (table_of v.facts s.mode).changed q ≡ false

-- A statement with these numbers was added.
pub record StatementAdded (old new : VerdictsNow) (table : Names) (entries : List Entry) (s : Statement) (a : Addition) (before now : ℕ) : Type 0 where
  -- the verdicts are those of the rows with it
  pub verdicts : (rows : Rows) → rows.entries ≡ entries → HasVerdictsBeside table old rows s a → HasVerdicts table new (after rows (edit.PutStatement s))
  -- its verdict is known, and the others are known as before
  pub known : (rows : Rows) → rows.entries ≡ entries → HasVerdictsBeside table old rows s a → known_in new ≡ known_in old ++ verdict (after rows (edit.PutStatement s)) s ∷ []
  -- the looks are within those of the names that the new facts meet
  pub steps : (rows : Rows) → rows.entries ≡ entries → HasVerdictsBeside table old rows s a → StepsWithin before now (statement_looks rows s)
