-- The changes of the boards by an item, a statement or a deprecation, and what each change requires. The number of
-- looks is `before` at first and `now` after the change.
use Rattle.std.specs.Prelude.{◌≡◌, ◌≢◌, ◌∷◌, ℕ, ◌+◌, ◌≤◌, List, [], length, find, true, Some, Result, OnOk}
use Rattle.std.specs.List.{flat_map, list_any}
use Rattle.cpe_rows.specs.cpe_name.Eleven.{Values}
use Rattle.name_index.specs.declared.products.Side.TheVariants as side
use Rattle.name_index.specs.Elements.{SameElements}
use Rattle.name_index.specs.declared.table.NameId.{NameId}
use Rattle.name_index.specs.Table.{Names, IsLive}
use Rattle.level_board.specs.Board.{probe_times, target_times, target_ids}
use Rattle.cpe_rows.specs.After.{after}
use Rattle.cpe_rows.specs.Chains.{ends as ends_in}
use Rattle.cpe_rows.specs.Names.{is_same}
use Rattle.cpe_rows.specs.Rows.{Rows, has_id}
use Rattle.cpe_rows.specs.declared.edit.Edit.{Edit}
use Rattle.cpe_rows.specs.declared.edit.Edit.TheVariants as edit
use Rattle.cpe_rows.specs.declared.statement.Mode.{Mode}
use Rattle.cpe_rows.specs.declared.statement.Mode.TheVariants.{Follow}
use Rattle.cpe_rows.specs.declared.statement.Statement.{Statement}
use Rattle.cpe_rows.specs.Touching.{deprecation_changed}
use Rattle.fact_laws.specs.Shown.{name_at, names_at, times_in_list}
use Rattle.fact_laws.specs.Asked.{statement_facts, fresh_facts, leads}
use Rattle.fact_boards.specs.declared.kept.WantedRoom.{WantedRoom}
use Rattle.fact_boards.specs.Kept.{AreFactNames, AreSettled, board_of_mode, Boards, ends_of_led, FitBoards, KeepLevels, KeepsBoardRoom, SameBoards, ShowRows}
use Rattle.fact_boards.specs.Lists.{IsWide, fact_looks}

-- Room was made for the wanted probes and targets in each mode, or memory ran out.
pub record MakesFactRoom {Done Fault : Type 0} (old new : Boards) (table : Names) (in_plain in_follow : WantedRoom) (result : Result Done Fault) : Type 0 where
  -- the boards are unchanged, and no room is lost
  pub same : SameBoards old new
  -- the boards fit all tables that they fitted
  pub fits : (names : Names) → FitBoards old names → FitBoards new names
  -- mode plain has room for the wanted probes
  pub plain : OnOk result (in_plain.asked ≤ new.plain.probe_room)
  -- mode plain has room for the wanted targets
  pub plain_there : OnOk result (in_plain.there ≤ new.plain.target_room)
  -- mode plain has room for all products of the table
  pub plain_wide : OnOk result (IsWide new.plain table)
  -- mode follow has room for the wanted probes
  pub follow : OnOk result (in_follow.asked ≤ new.follow.probe_room)
  -- mode follow has room for the wanted targets
  pub follow_there : OnOk result (in_follow.there ≤ new.follow.target_room)
  -- mode follow has room for all products of the table
  pub follow_wide : OnOk result (IsWide new.follow table)

-- An item of this number, with these ends, may be added.
pub record MayAddItem (boards : Boards) (table : Names) (id : NameId) (led : List NameId) : Type 0 where
  -- the boards fit the table
  pub fits : FitBoards boards table
  -- the table has the item's name
  pub item : IsLive table id.0
  -- the table has the name of each end
  pub ends : AreFactNames table led
  -- mode plain has room for all products of the table
  pub wide : IsWide boards.plain table
  -- mode follow has room for all products of the table
  pub wide_follow : IsWide boards.follow table
  -- mode plain has room for the item
  pub room : 1 ≤ boards.plain.target_room
  -- mode follow has room for the item's ends
  pub room_follow : length led ≤ boards.follow.target_room
  -- the multiplicities of targets stay below 2^32 in mode plain
  pub few : (t : ℕ) → target_times boards.plain t + 1 ≤ 4294967295
  -- the multiplicities of targets stay below 2^32 in mode follow
  pub few_follow : (t : ℕ) → target_times boards.follow t + length led ≤ 4294967295
  -- no probe is marked
  pub settled : AreSettled boards

-- The item was added.
pub record ItemArrives (old new : Boards) (table : Names) (item : NameId) (led : List NameId) (before now : ℕ) : Type 0 where
  -- the boards still fit the table
  pub fits : FitBoards new table
  -- the boards show the rows with the item, if these are its ends
  pub shows : (rows : Rows) → ShowRows table old rows → names_at table led ≡ ends_in rows.entries (name_at table item)
      → ShowRows table new (after rows (edit.Item (name_at table item)))
  -- the level of a probe differs only if the probe is marked
  pub levels : KeepLevels old new
  -- mode plain used the room of one target at most
  pub room : KeepsBoardRoom old.plain new.plain 0 1
  -- mode follow used the room of the ends at most
  pub room_follow : KeepsBoardRoom old.follow new.follow 0 (length led)
  -- the looks are at these names, and at the probes whose products meet theirs
  pub steps : now ≤ before + fact_looks table side.Target old.plain.probe_ids (item ∷ []) + fact_looks table side.Target old.follow.probe_ids led
  -- the number of looks doesn't fall
  pub rise : before ≤ now

-- The item was removed.
pub record ItemLeaves (old new : Boards) (table : Names) (item : NameId) (led : List NameId) (before now : ℕ) : Type 0 where
  -- the boards still fit the table
  pub fits : FitBoards new table
  -- the boards show the rows without the item, if the rows had the item and these are its ends
  pub shows : (rows : Rows) → ShowRows table old rows → list_any (is_same (name_at table item)) rows.items ≡ true
      → names_at table led ≡ ends_in rows.entries (name_at table item) → ShowRows table new (after rows (edit.DropItem (name_at table item)))
  -- the level of a probe differs only if the probe is marked
  pub levels : KeepLevels old new
  -- mode plain used no room
  pub room : KeepsBoardRoom old.plain new.plain 0 0
  -- mode follow used no room
  pub room_follow : KeepsBoardRoom old.follow new.follow 0 0
  -- the looks are at these names, and at the probes whose products meet theirs
  pub steps : now ≤ before + fact_looks table side.Target old.plain.probe_ids (item ∷ []) + fact_looks table side.Target old.follow.probe_ids led
  -- the number of looks doesn't fall
  pub rise : before ≤ now

-- The names to which new facts of a statement lead were added as probes of a mode.
pub record FactsAsked (old new : Boards) (table : Names) (mode : Mode) (numbers : List NameId) (before now : ℕ) : Type 0 where
  -- the boards still fit the table
  pub fits : FitBoards new table
  -- the boards show the rows with the statement, if these are the names to which its new facts lead
  pub shows : (rows : Rows) (s : Statement) → s.mode ≡ mode → ShowRows table old rows
      → SameElements (names_at table numbers) (flat_map (leads rows.entries mode) (fresh_facts mode rows.statements s)) → ShowRows table new (after rows (edit.PutStatement s))
  -- the level of a probe differs only if the probe is marked
  pub levels : KeepLevels old new
  -- the mode used the room of these probes at most
  pub room : KeepsBoardRoom (board_of_mode old mode) (board_of_mode new mode) (length numbers) 0
  -- no probe is marked, if none was marked before
  pub settled : AreSettled old → AreSettled new
  -- the board of the other mode is unchanged
  pub other : (m : Mode) → m ≢ mode → board_of_mode new m ≡ board_of_mode old m
  -- the looks are at these names, and at the targets whose products meet theirs
  pub steps : now ≤ before + fact_looks table side.Source (target_ids (board_of_mode old mode)) numbers
  -- the number of looks doesn't fall
  pub rise : before ≤ now

-- The names to which a statement's own facts lead were removed from the probes of a mode.
pub record FactsUnasked (old new : Boards) (table : Names) (mode : Mode) (numbers : List NameId) (before now : ℕ) : Type 0 where
  -- the boards still fit the table
  pub fits : FitBoards new table
  -- the boards show the rows without the statement, if these are the names to which its own facts lead: the facts that
  -- no other statement has
  pub shows : (rows : Rows) (id : List ℕ) (s : Statement) → s.mode ≡ mode → find (has_id id) rows.statements ≡ Some s → ShowRows table old rows
      → SameElements (names_at table numbers) (flat_map (leads rows.entries mode) (fresh_facts mode (after rows (edit.DropStatement id)).statements s)) → ShowRows table new (after rows (edit.DropStatement id))
  -- the boards show the rows before the statement was added, if these are the names to which its new facts lead
  pub back : (rows : Rows) (s : Statement) → s.mode ≡ mode → SameElements (names_at table numbers) (flat_map (leads rows.entries mode) (fresh_facts mode rows.statements s))
      → ShowRows table old (after rows (edit.PutStatement s)) → ShowRows table new rows
  -- the level of a probe differs only if the probe is marked
  pub levels : KeepLevels old new
  -- the mode used no room
  pub room : KeepsBoardRoom (board_of_mode old mode) (board_of_mode new mode) 0 0
  -- no probe is marked, if none was marked before
  pub settled : AreSettled old → AreSettled new
  -- the board of the other mode is unchanged
  pub other : (m : Mode) → m ≢ mode → board_of_mode new m ≡ board_of_mode old m
  -- no looks are taken
  pub steps : now ≡ before

-- Items and facts may be moved from these ends to those ends.
pub record MayLead (boards : Boards) (table : Names) (items_from items_to facts_from facts_to : List NameId) : Type 0 where
  -- the boards fit the table
  pub fits : FitBoards boards table
  -- the table has the names of the items' old ends
  pub live_from : AreFactNames table items_from
  -- the table has the names of the items' new ends
  pub live_to : AreFactNames table items_to
  -- the table has the names of the facts' old ends
  pub live_facts_from : AreFactNames table facts_from
  -- the table has the names of the facts' new ends
  pub live_facts_to : AreFactNames table facts_to
  -- mode follow has room for all products of the table
  pub wide : IsWide boards.follow table
  -- mode follow has room for the items' new ends
  pub room : length items_to ≤ boards.follow.target_room
  -- mode follow has room for the facts' new ends
  pub room_facts : length facts_to ≤ boards.follow.probe_room
  -- the multiplicities of targets stay below 2^32
  pub few : (t : ℕ) → target_times boards.follow t + length items_to ≤ 4294967295
  -- the multiplicities of probes stay below 2^32
  pub few_facts : (p : ℕ) → probe_times boards.follow p + length facts_to ≤ 4294967295
  -- each old end of items is a target at least as often
  pub there : (t : ℕ) → times_in_list t items_from ≤ target_times boards.follow t
  -- each old end of facts is a probe at least as often
  pub asked : (p : ℕ) → times_in_list p facts_from ≤ probe_times boards.follow p
  -- no probe is marked
  pub settled : AreSettled boards

-- Items and facts were moved from their old ends to their new ends.
pub record EndsLed (old new : Boards) (table : Names) (items_from items_to facts_from facts_to : List NameId) (before now : ℕ) : Type 0 where
  -- the boards still fit the table
  pub fits : FitBoards new table
  -- the boards show the rows after the change of a deprecation; the four lists are the ends, before and after, of the
  -- items and facts that lead to its entry
  pub shows : (rows : Rows) (e : Edit) (n : Values) → deprecation_changed e ≡ Some n → ShowRows table old rows
      → SameElements (names_at table items_from) (ends_of_led rows.entries rows.entries n rows.items)
      → SameElements (names_at table items_to) (ends_of_led rows.entries (after rows e).entries n rows.items)
      → SameElements (names_at table facts_from) (ends_of_led rows.entries rows.entries n (statement_facts Follow rows.statements))
      → SameElements (names_at table facts_to) (ends_of_led rows.entries (after rows e).entries n (statement_facts Follow rows.statements))
      → ShowRows table new (after rows e)
  -- the level of a probe differs only if the probe is marked
  pub levels : KeepLevels old new
  -- mode follow used the room of the new ends at most
  pub room : KeepsBoardRoom old.follow new.follow (length facts_to) (length items_to)
  -- the board of mode plain is unchanged
  pub plain : new.plain ≡ old.plain
  -- the looks are at all these names, except the facts' old ends, and at the names of the other side whose products
  -- meet theirs
  pub steps : now ≤ before + fact_looks table side.Target old.follow.probe_ids items_to + fact_looks table side.Target old.follow.probe_ids items_from
      + fact_looks table side.Source (target_ids new.follow) facts_to
  -- the number of looks doesn't fall
  pub rise : before ≤ now
