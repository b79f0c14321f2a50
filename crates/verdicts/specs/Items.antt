-- Items: room for one, those that a name meets, and those that lead to a name which passes a test.
use Rattle.std.specs.Prelude.{◌≡◌, ℕ, ◌≤◌, true, Bool, List, filter}
use Rattle.std.specs.List.{flat_map, list_any}
use Rattle.cpe_rows.specs.cpe_name.Eleven.{Values}
use Rattle.name_index.specs.Elements.{SameElements}
use Rattle.name_index.specs.declared.table.NameId.{NameId}
use Rattle.name_index.specs.Index.{ids}
use Rattle.name_index.specs.Table.{Names, kept_at}
use Rattle.facts.specs.level_board.Board.{Board, target_ids}
use Rattle.cpe_rows.specs.Names.{is_same}
use Rattle.cpe_rows.specs.Rows.{Rows}
use Rattle.cpe_rows.specs.declared.entry.Entry.{Entry}
use Rattle.cpe_rows.specs.declared.statement.Mode.{Mode}
use Rattle.cpe_rows.specs.declared.statement.Mode.TheVariants.{Plain, Follow}
use Rattle.facts.specs.fact_laws.Asked.{leads}
use Rattle.name_registry.specs.Registered.{items_leading}
use Rattle.fact_boards.specs.Lists.{IsWide}
use Rattle.facts.specs.Facts.{FactsNow}

-- The boards have room for an item with this many ends.
pub record HasRoomForItem (f : FactsNow) (table : Names) (its_ends : ℕ) : Type 0 where
  pub wide : IsWide f.boards.plain table
  pub wide_follow : IsWide f.boards.follow table
  pub room : 1 ≤ f.boards.plain.target_room
  pub room_follow : its_ends ≤ f.boards.follow.target_room

-- The found numbers are those of the targets of a board whose names pass a test, in any order.
abbrev pub ArePassing : Names → Board → (Values → Bool) → List NameId → Type 0
ArePassing table board passes found = SameElements (filter (λ (id : NameId). passes (kept_at table id.0).name) (ids (target_ids board))) found

-- the items that lead in a mode to these names: in mode plain the names are items, and each leads to itself
abbrev pub items_of_fact : List Entry → List Values → Mode → List Values → List Values
items_of_fact entries items Plain names = names
items_of_fact entries items Follow names = flat_map (items_leading entries items) names

-- Of the items, exactly those are among the found names which lead in a mode to a name that passes.
abbrev pub AreItemsTo : Rows → Mode → (Values → Bool) → List Values → Type 0
AreItemsTo rows mode passes found = (n : Values) → list_any (is_same n) rows.items ≡ true → list_any (is_same n) found ≡ list_any passes (leads rows.entries mode n)
