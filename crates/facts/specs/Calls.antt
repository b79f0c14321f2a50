-- What each call requires of the facts, and what it changes of them. `before` and `now` are counts of steps.
use Rattle.std.specs.Prelude.{◌≡◌, ℕ, ◌≤◌, ◌&&◌, ◌||◌, ◌++◌, ◌∷◌, [], Bool, List, length, true, false, find, Some, None}
use Rattle.std.specs.List.{flat_map, list_any}
use Rattle.name_index.specs.declared.table.NameId.{NameId}
use Rattle.name_index.specs.Table.{Names, IsLive}
use Rattle.name_index.specs.Elements.{SameElements}
use Rattle.name_index.specs.step_count.Within.{StepsWithin}
use Rattle.cpe_rows.specs.After.{after}
use Rattle.cpe_rows.specs.FactNames.{fact_names}
use Rattle.cpe_rows.specs.Lawful.{IsLawful}
use Rattle.cpe_rows.specs.Names.{is_same}
use Rattle.cpe_rows.specs.Rows.{has_id, Rows}
use Rattle.cpe_rows.specs.declared.edit.Edit.TheVariants as edit
use Rattle.cpe_rows.specs.declared.statement.Mode.{Mode}
use Rattle.cpe_rows.specs.declared.statement.Mode.TheVariants.{Follow}
use Rattle.cpe_rows.specs.declared.statement.Statement.{Statement}
use Rattle.fact_laws.specs.Shown.{name_at, names_at, times_in_list}
use Rattle.fact_boards.specs.level_board.Board.{probe_times}
use Rattle.fact_laws.specs.Asked.{fresh_facts, leads}
use Rattle.fact_boards.specs.Kept.{AreFactNames, board_of_mode}
use Rattle.fact_rows.specs.Facts.{AreLinkedFacts, ends_of_fact, fact_at, facts_with_end, FactTable, has_end_of_fact, has_fact_room, is_fact, leads_of, truth_of_fact, users_of}
use Rattle.fact_rows.specs.ticket_list.Tickets.{ends_with, is_empty, with_last, without}
use Rattle.fact_boards.specs.Lists.{IsWide}
use Rattle.facts.specs.Facts.{AreChanges, AreUsed, AreUsedBut, FactsNow, HasFacts, is_used, LeadsTo, table_of}
use Rattle.facts.specs.Looks.{item_looks, statement_looks}
use Rattle.facts.specs.Users.{AreBelow, statement_ticket}

-- An item with these ends may be added.
pub record MayAddItem (f : FactsNow) (table : Names) (item : NameId) (its_ends : List NameId) : Type 0 where
  -- it has a name
  pub live : IsLive table item.0
  -- there is room for it and for its ends
  pub wide : IsWide f.boards.plain table
  pub wide_follow : IsWide f.boards.follow table
  pub room : 1 ≤ f.boards.plain.target_room
  pub room_follow : length its_ends ≤ f.boards.follow.target_room
  -- the facts are those of lawful rows, by which these are its ends
  pub rows_before : (rows : Rows) × (tickets : List ℕ) × IsLawful rows × HasFacts table f rows tickets × LeadsTo table rows.entries Follow item.0 its_ends

-- The item was added.
pub record ItemCovered (old new : FactsNow) (table : Names) (item : NameId) (its_ends : List NameId) (before now : ℕ) : Type 0 where
  -- the facts are those of the rows with it
  pub facts : (rows : Rows) (tickets : List ℕ) → HasFacts table old rows tickets → LeadsTo table rows.entries Follow item.0 its_ends
      → HasFacts table new (after rows (edit.Item (name_at table item))) tickets
  -- the changed facts are exactly those whose truth was replaced
  pub changed : AreChanges old.plain new.plain
  pub changed_follow : AreChanges old.follow new.follow
  -- each fact is still in use
  pub used : AreUsed old → AreUsed new
  -- the looks are within those of an item
  pub steps : (rows : Rows) (tickets : List ℕ) → HasFacts table old rows tickets → LeadsTo table rows.entries Follow item.0 its_ends
      → StepsWithin before now (item_looks rows (name_at table item))

-- An item with these ends may be removed.
pub record MayRemoveItem (f : FactsNow) (table : Names) (item : NameId) (its_ends : List NameId) : Type 0 where
  pub live : IsLive table item.0
  pub rows_before : (rows : Rows) × (tickets : List ℕ) × HasFacts table f rows tickets × LeadsTo table rows.entries Follow item.0 its_ends × (list_any (is_same (name_at table item)) rows.items ≡ true)

-- The item was removed.
pub record ItemRemoved (old new : FactsNow) (table : Names) (item : NameId) (its_ends : List NameId) (before now : ℕ) : Type 0 where
  pub facts : (rows : Rows) (tickets : List ℕ) → HasFacts table old rows tickets → LeadsTo table rows.entries Follow item.0 its_ends → list_any (is_same (name_at table item)) rows.items ≡ true
      → HasFacts table new (after rows (edit.DropItem (name_at table item))) tickets
  pub changed : AreChanges old.plain new.plain
  pub changed_follow : AreChanges old.follow new.follow
  pub used : AreUsed old → AreUsed new
  pub steps : (rows : Rows) (tickets : List ℕ) → HasFacts table old rows tickets → LeadsTo table rows.entries Follow item.0 its_ends
      → StepsWithin before now (item_looks rows (name_at table item))

-- A ticket was added to some facts.
pub record UsersAdded (old new : FactTable) (which : ℕ → Bool) (ticket : ℕ) : Type 0 where
  pub here : (q : ℕ) → which q ≡ true → users_of new q ≡ with_last ticket (users_of old q)
  pub others : (q : ℕ) → which q ≡ false → fact_at new q ≡ fact_at old q
  pub there : (q : ℕ) → is_fact new q ≡ is_fact old q
  pub ends : (q : ℕ) → ends_of_fact new q ≡ ends_of_fact old q
  pub truths : (q : ℕ) → truth_of_fact new q ≡ truth_of_fact old q
  pub facts : (e : ℕ) → facts_with_end new e ≡ facts_with_end old e

-- A new statement of a mode: the facts to which it refers, the fresh ones among them, the names to which these lead, and its ticket.
pub record IsNewStatement (f : FactsNow) (table : Names) (rows : Rows) (tickets : List ℕ) (s : Statement) (mode : Mode) (ids fresh asked : List NameId) (ticket : ℕ) : Type 0 where
  pub moded : s.mode ≡ mode
  pub live : AreFactNames table ids
  pub named : names_at table ids ≡ fact_names s.test
  -- the ticket is above all others
  pub below : AreBelow ticket tickets
  -- each fact of the statement that is not fresh is already in use
  pub whole : (q : ℕ) → has_end_of_fact ids q ≡ true → has_end_of_fact fresh q ≡ false → is_used (table_of f mode) q ≡ true
  -- the table has, for each fresh fact, the names to which its name leads by the entries
  pub leads_there : (q : ℕ) → has_end_of_fact fresh q ≡ true → LeadsTo table rows.entries mode q (leads_of mode (table_of f mode) q)
  pub asked_for : SameElements (names_at table asked) (flat_map (leads rows.entries mode) (fresh_facts mode rows.statements s))

-- There is room for a statement with these facts, of which the fresh ones are not in use yet and lead to the names asked.
pub record HasStatementRoom (f : FactsNow) (table : Names) (mode : Mode) (ids fresh asked : List NameId) (ticket : ℕ) : Type 0 where
  -- the names that are asked have numbers, and there is room for them
  pub live_asked : AreFactNames table asked
  pub wide : IsWide (board_of_mode f.boards mode) table
  pub room : length asked ≤ (board_of_mode f.boards mode).probe_room
  pub few : length asked ≤ 268435456
  -- the fresh facts are among those to which the statement refers, and each of these has room for one more user
  pub own : (q : ℕ) → has_end_of_fact fresh q ≡ true → has_end_of_fact ids q ≡ true
  pub room_users : (q : ℕ) → has_end_of_fact ids q ≡ true → (has_fact_room (table_of f mode) q || ends_with ticket (users_of (table_of f mode) q)) ≡ true

-- The statement may be added.
pub record MayAddStatement (f : FactsNow) (table : Names) (mode : Mode) (ids fresh asked : List NameId) (ticket : ℕ) : Type 0 where
  pub room : HasStatementRoom f table mode ids fresh asked ticket
  pub rows_before : (rows : Rows) × (tickets : List ℕ) × IsLawful rows × HasFacts table f rows tickets

-- The statement was added.
pub record StatementUsed (old new : FactsNow) (table : Names) (mode : Mode) (ids fresh asked : List NameId) (ticket before now : ℕ) : Type 0 where
  pub facts : (rows : Rows) (tickets : List ℕ) (s : Statement) → HasFacts table old rows tickets → IsNewStatement old table rows tickets s mode ids fresh asked ticket
      → HasFacts table new (after rows (edit.PutStatement s)) (tickets ++ ticket ∷ [])
  pub changed : (m : Mode) → AreChanges (table_of old m) (table_of new m)
  -- each fact is in use, if only the fresh ones were not
  pub used : AreUsedBut old mode fresh → AreUsed new
  pub steps : (rows : Rows) (tickets : List ℕ) (s : Statement) → HasFacts table old rows tickets → IsNewStatement old table rows tickets s mode ids fresh asked ticket
      → StepsWithin before now (statement_looks rows s)

-- A ticket was removed from some facts.
pub record UsersRemoved (old new : FactTable) (which : ℕ → Bool) (ticket : ℕ) : Type 0 where
  pub here : (q : ℕ) → which q ≡ true → users_of new q ≡ without ticket (users_of old q)
  pub others : (q : ℕ) → which q ≡ false → fact_at new q ≡ fact_at old q
  pub there : (q : ℕ) → is_fact new q ≡ is_fact old q
  pub ends : (q : ℕ) → ends_of_fact new q ≡ ends_of_fact old q
  pub truths : (q : ℕ) → truth_of_fact new q ≡ truth_of_fact old q
  pub facts : (e : ℕ) → facts_with_end new e ≡ facts_with_end old e

-- Some facts were removed.
pub record FactsRemoved (old new : FactTable) (which : ℕ → Bool) : Type 0 where
  pub gone : (q : ℕ) → which q ≡ true → fact_at new q ≡ None
  pub others : (q : ℕ) → which q ≡ false → fact_at new q ≡ fact_at old q
  pub linked : AreLinkedFacts old → AreLinkedFacts new

-- The statement of an id: the facts to which it refers, the names to which those lead that it alone uses, and its ticket.
pub record IsOldStatement (f : FactsNow) (table : Names) (rows : Rows) (tickets : List ℕ) (id : List ℕ) (s : Statement) (mode : Mode) (ids asked : List NameId) (ticket : ℕ) : Type 0 where
  pub moded : s.mode ≡ mode
  pub live : AreFactNames table ids
  pub named : names_at table ids ≡ fact_names s.test
  pub there : find (has_id id) rows.statements ≡ Some s
  pub its : statement_ticket id tickets rows.statements ≡ Some ticket
  pub asked_for : SameElements (names_at table asked) (flat_map (leads rows.entries mode) (fresh_facts mode (after rows (edit.DropStatement id)).statements s))

-- The statement may be removed.
pub record MayRemoveStatement (f : FactsNow) (table : Names) (mode : Mode) (ids last asked : List NameId) (ticket : ℕ) : Type 0 where
  -- the last facts are exactly those that it alone uses
  pub alone : (q : ℕ) → has_end_of_fact last q ≡ (has_end_of_fact ids q && is_empty (without ticket (users_of (table_of f mode) q)))
  pub live_asked : AreFactNames table asked
  pub asked_there : (p : ℕ) → times_in_list p asked ≤ probe_times (board_of_mode f.boards mode) p
  pub rows_before : (rows : Rows) × (tickets : List ℕ) × HasFacts table f rows tickets

-- The statement was removed.
pub record StatementUnused (old new : FactsNow) (table : Names) (mode : Mode) (ids last asked : List NameId) (ticket before now : ℕ) : Type 0 where
  pub facts : (rows : Rows) (tickets : List ℕ) (id : List ℕ) (s : Statement) → HasFacts table old rows tickets → IsOldStatement old table rows tickets id s mode ids asked ticket
      → HasFacts table new (after rows (edit.DropStatement id)) (without ticket tickets)
  -- no truth is replaced
  pub changed : (m : Mode) → (table_of new m).changed ≡ []
  pub truths : (m : Mode) (q : ℕ) → is_fact (table_of new m) q ≡ true → truth_of_fact (table_of new m) q ≡ truth_of_fact (table_of old m) q
  pub used : AreUsed old → AreUsed new
  -- there are no looks
  pub steps : now ≡ before
