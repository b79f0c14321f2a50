-- What calls that take memory, before an edit or to give it up, change of the facts: nothing that the rows say of them.
use Rattle.std.specs.Prelude.{◌≡◌, ◌≢◌, ℕ, List, ◌∷◌, true, Result, OnOk}
use Rattle.name_index.specs.declared.table.NameId.{NameId}
use Rattle.name_index.specs.Table.{Names, IsLive}
use Rattle.cpe_rows.specs.Rows.{Rows}
use Rattle.cpe_rows.specs.declared.statement.Mode.{Mode}
use Rattle.fact_boards.specs.Moved.{MakesFactRoom}
use Rattle.fact_boards.specs.declared.kept.WantedRoom.{WantedRoom}
use Rattle.fact_rows.specs.Facts.{FactTable, has_end_of_fact, has_fact_room, fact_name_id, truth_of_fact}
use Rattle.fact_rows.specs.Calls.{FactAdded, FactLinked, SameFacts}
use Rattle.facts.specs.Facts.{AreUsed, AreUsedBut, FactsNow, HasFacts, table_of}
use Rattle.facts.specs.Calls.{FactsRemoved}

-- the facts are still those of the same rows
abbrev pub KeepsFacts : FactsNow → FactsNow → Type 0
KeepsFacts old new = (names : Names) (rows : Rows) (tickets : List ℕ) → HasFacts names old rows tickets → HasFacts names new rows tickets

-- the boards and the facts of the other mode are unchanged
pub record OnlyMode (old new : FactsNow) (mode : Mode) : Type 0 where
  pub boards : new.boards ≡ old.boards
  pub other : (m : Mode) → m ≢ mode → table_of new m ≡ table_of old m

-- A fact was added that no statement uses, or memory ran out.
pub record UnusedAdded {Done Fault : Type 0} (old new : FactsNow) (mode : Mode) (fact : ℕ) (its_ends : List NameId) (result : Result Done Fault) : Type 0 where
  pub facts : (names : Names) (rows : Rows) (tickets : List ℕ) → IsLive names fact → HasFacts names old rows tickets → HasFacts names new rows tickets
  pub table : FactAdded (table_of old mode) (table_of new mode) fact its_ends result
  pub only : OnlyMode old new mode
  -- each fact is in use, except those that were not, and it
  pub used : (fresh : List NameId) → AreUsedBut old mode fresh → AreUsedBut new mode (fact_name_id fact ∷ fresh)

-- Facts that no statement uses were removed.
pub record UnusedRemoved (old new : FactsNow) (mode : Mode) (unused : List NameId) : Type 0 where
  pub facts : KeepsFacts old new
  pub table : FactsRemoved (table_of old mode) (table_of new mode) (has_end_of_fact unused)
  pub only : OnlyMode old new mode
  -- each fact is in use, if only these were not
  pub used : AreUsedBut old mode unused → AreUsed new

-- Room was reserved for one more user of each of these facts, or memory ran out.
pub record UsersReserved {Done Fault : Type 0} (old new : FactTable) (ids : List NameId) (result : Result Done Fault) : Type 0 where
  pub same : SameFacts old new
  pub truths : (q : ℕ) → truth_of_fact new q ≡ truth_of_fact old q
  pub changed : new.changed ≡ old.changed
  pub room : OnOk result ((q : ℕ) → has_end_of_fact ids q ≡ true → has_fact_room new q ≡ true)

-- The same of the facts of a mode.
pub record RoomForUsers {Done Fault : Type 0} (old new : FactsNow) (mode : Mode) (ids : List NameId) (result : Result Done Fault) : Type 0 where
  pub facts : KeepsFacts old new
  pub table : UsersReserved (table_of old mode) (table_of new mode) ids result
  pub only : OnlyMode old new mode

-- A fact of mode follow was linked to these ends, or memory ran out.
pub record EndsLinked {Done Fault : Type 0} (old new : FactsNow) (fact : ℕ) (its_ends : List NameId) (result : Result Done Fault) : Type 0 where
  pub facts : KeepsFacts old new
  pub table : FactLinked old.follow new.follow fact its_ends result
  pub boards : new.boards ≡ old.boards
  pub plain : new.plain ≡ old.plain

-- Room was reserved on the boards for these names, or memory ran out.
pub record RoomOnBoards {Done Fault : Type 0} (old new : FactsNow) (table : Names) (in_plain in_follow : WantedRoom) (result : Result Done Fault) : Type 0 where
  pub facts : KeepsFacts old new
  pub boards : MakesFactRoom old.boards new.boards table in_plain in_follow result
  pub plain : new.plain ≡ old.plain
  pub follow : new.follow ≡ old.follow
