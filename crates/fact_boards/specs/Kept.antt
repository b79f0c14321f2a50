-- Two boards, one for each mode, that show the probes and targets of the rows.
use Rattle.std.specs.Prelude.{◌≡◌, ℕ, ◌+◌, ◌≤◌, List, [], filter}
use Rattle.std.specs.List.{AllByRecursion, flat_map, sum_by}
use Rattle.cpe_rows.specs.cpe_name.Eleven.{Values}
use Rattle.name_index.specs.declared.products.Side.{Side}
use Rattle.name_index.specs.declared.table.NameId.{NameId}
use Rattle.name_index.specs.Table.{Names, IsLive}
use Rattle.level_board.specs.Board.{AreAnswers, ProbesAreMarks, Board, FitsBoard, AreHeldIds, KeepsLevels, SameBoard, probe_times, target_times}
use Rattle.cpe_rows.specs.Chains.{ends, leads_to}
use Rattle.cpe_rows.specs.Rows.{Rows}
use Rattle.cpe_rows.specs.declared.entry.Entry.{Entry}
use Rattle.cpe_rows.specs.declared.statement.Mode.{Mode}
use Rattle.cpe_rows.specs.declared.statement.Mode.TheVariants.{Plain, Follow}
use Rattle.fact_laws.specs.Shown.{Shows, different, IsKnown, near_names, times_named}
use Rattle.fact_laws.specs.Asked.{asked, names_of_rows, target_names}

pub record Boards : Type 0 where
  pub plain : Board
  pub follow : Board

abbrev pub board_of_mode : Boards → Mode → Board
board_of_mode b Plain = b.plain
board_of_mode b Follow = b.follow

-- the probes are the names to which the facts of the mode lead, and the targets are the names to which the items lead
pub record ShowsRows (names : Names) (board : Board) (rows : Rows) (mode : Mode) : Type 0 where
  pub asked : Shows names (probe_times board) (asked rows mode)
  pub there : Shows names (target_times board) (target_names rows mode)

-- each board shows the rows in its mode
pub record ShowRows (names : Names) (boards : Boards) (rows : Rows) : Type 0 where
  pub plain : ShowsRows names boards.plain rows Plain
  pub follow : ShowsRows names boards.follow rows Follow

pub record FitBoards (boards : Boards) (names : Names) : Type 0 where
  pub plain : FitsBoard boards.plain names
  pub follow : FitsBoard boards.follow names

-- the table has the names of all entries, items and facts
abbrev pub AreKnown : Names → Rows → Type 0
AreKnown names rows = (n : Values) → 1 ≤ times_named n (names_of_rows rows) → IsKnown names n

-- both boards hold the numbers of their probes and targets, their levels are right, and each marked probe is in the
-- list of marks
pub record AreSound (boards : Boards) : Type 0 where
  pub on : (mode : Mode) → AreHeldIds (board_of_mode boards mode)
  pub answers : (mode : Mode) → AreAnswers (board_of_mode boards mode)
  pub marks : (mode : Mode) → ProbesAreMarks (board_of_mode boards mode)

-- no probe is marked
pub record AreSettled (boards : Boards) : Type 0 where
  pub plain : boards.plain.marks ≡ []
  pub follow : boards.follow.marks ≡ []

abbrev pub AreFactNames : Names → List NameId → Type 0
AreFactNames names numbers = AllByRecursion (λ (x : NameId). IsLive names x.0) numbers

-- the level of a probe that is on the board before and after differs only if the probe is marked
pub record KeepLevels (old new : Boards) : Type 0 where
  pub plain : KeepsLevels old.plain new.plain
  pub follow : KeepsLevels old.follow new.follow

-- the change used the room of at most these numbers of probes and targets, and none of the room for products
pub record KeepsBoardRoom (old new : Board) (asked target_names : ℕ) : Type 0 where
  pub probe_room : old.probe_room ≤ new.probe_room + asked
  pub target_room : old.target_room ≤ new.target_room + target_names
  pub wide : new.wide ≡ old.wide

pub record SameBoards (old new : Boards) : Type 0 where
  pub plain : SameBoard old.plain new.plain
  pub follow : SameBoard old.follow new.follow

-- the ends, by the entries `now`, of the names whose chain had the entry of `n` by the entries `before`
abbrev pub ends_of_led : List Entry → List Entry → Values → List Values → List Values
ends_of_led before now n names = flat_map (ends now) (filter (λ x. leads_to before x n) names)

-- the number is neither a probe nor a target, in both modes
pub record AreNowhere (boards : Boards) (id : ℕ) : Type 0 where
  pub asked : probe_times boards.plain id ≡ 0
  pub there : target_times boards.plain id ≡ 0
  pub asked_follow : probe_times boards.follow id ≡ 0
  pub there_follow : target_times boards.follow id ≡ 0

-- a bound on the looks for some names: one for each name, and one for each different name of the other side whose
-- product meets the name's product
abbrev pub looks_by : Side → List Values → List Values → ℕ
looks_by side others names = sum_by (λ (n : Values). 1 + near_names side n.product (different others)) names
