-- The changes of a board by a list of numbers, which are added or removed as targets or as probes.
use Rattle.std.specs.Prelude.{◌≡◌, ℕ, ◌+◌, ◌<◌, ◌≤◌, List, [], length, Some, count_by}
use Rattle.std.specs.List.{sum_by}
use Rattle.cpe_rows.specs.cpe_name.Eleven.{Values}
use Rattle.cpe_rows.specs.cpe_relation.Maybe.{maybe}
use Rattle.cpe_rows.specs.cpe_relation.NameRelation.{covers}
use Rattle.name_index.specs.declared.products.Side.{Side}
use Rattle.name_index.specs.declared.table.NameId.{NameId}
use Rattle.name_index.specs.Table.{Names, Kept, find_kept, kept_at}
use Rattle.name_index.specs.Index.{ids}
use Rattle.level_board.specs.Board.{MarksAreProbes, Board, FitsBoard, KeepsLevels, probe_times, target_times}
use Rattle.cpe_rows.specs.Verdict.{truth}
use Rattle.cpe_rows.specs.declared.truth.Truth.{Truth}
use Rattle.fact_laws.specs.Shown.{is_met_on, times_in_list}
use Rattle.fact_laws.specs.Asked.{is_one}

-- the board has room for the products of all live names
abbrev pub IsWide : Board → Names → Type 0
IsWide board names = (id : ℕ) (k : Kept) → find_kept names id ≡ Some k → k.product < board.wide

-- a bound on the looks for a number: one, and one for each number of the other side whose product meets the number's
-- product
abbrev pub looks_at : Names → Side → List (ℕ × ℕ) → NameId → ℕ
looks_at names side others id = 1 + count_by (is_met_on names side (kept_at names id.0).name.product) (ids others)

abbrev pub fact_looks : Names → Side → List (ℕ × ℕ) → List NameId → ℕ
fact_looks names side others numbers = sum_by (looks_at names side others) numbers

-- the truth of a fact that leads to these names: TRUE if one covers a target, otherwise UNKNOWN if one may cover a
-- target, otherwise FALSE
abbrev pub truth_of_names : List Values → List Values → Truth
truth_of_names names there = truth (is_one covers names there) (is_one maybe names there)

-- the targets and the marks are unchanged
pub record TargetsStay (old new : Board) : Type 0 where
  pub marks : new.marks ≡ old.marks
  pub targets : new.targets ≡ old.targets
  pub target_index : new.target_index ≡ old.target_index
  pub target_room : new.target_room ≡ old.target_room
  pub wide : new.wide ≡ old.wide

-- the probes are unchanged, their levels differ only if they are marked, and each of the marks is a marked probe
pub record ProbesStay (old new : Board) : Type 0 where
  pub times : (p : ℕ) → probe_times new p ≡ probe_times old p
  pub levels : KeepsLevels old new
  pub marked : MarksAreProbes new
  pub probe_ids : new.probe_ids ≡ old.probe_ids
  pub probe_room : new.probe_room ≡ old.probe_room
  pub wide : new.wide ≡ old.wide

-- the state of a loop: the numbers of `rest` are still to be added or removed, as targets or as probes
pub record Arriving (old now : Board) (names : Names) (all rest : List NameId) : Type 0 where
  pub fits : FitsBoard now names
  pub times : (t : ℕ) → target_times now t + times_in_list t rest ≡ target_times old t + times_in_list t all
  pub stay : ProbesStay old now
  pub room : old.target_room + length rest ≤ now.target_room + length all

pub record Leaving (old now : Board) (names : Names) (all rest : List NameId) : Type 0 where
  pub fits : FitsBoard now names
  pub times : (t : ℕ) → target_times now t + times_in_list t all ≡ target_times old t + times_in_list t rest
  pub stay : ProbesStay old now
  pub room : old.target_room ≤ now.target_room

pub record Asking (old now : Board) (names : Names) (all rest : List NameId) : Type 0 where
  pub fits : FitsBoard now names
  pub still : (p : ℕ) → 0 < probe_times old p → 0 < probe_times now p
  pub times : (p : ℕ) → probe_times now p + times_in_list p rest ≡ probe_times old p + times_in_list p all
  pub stay : TargetsStay old now
  pub levels : KeepsLevels old now
  pub room : old.probe_room + length rest ≤ now.probe_room + length all

pub record Unasking (old now : Board) (names : Names) (all rest : List NameId) : Type 0 where
  pub fits : FitsBoard now names
  pub times : (p : ℕ) → probe_times now p + times_in_list p all ≡ probe_times old p + times_in_list p rest
  pub stay : TargetsStay old now
  pub levels : KeepsLevels old now
  pub room : old.probe_room ≤ now.probe_room

-- all numbers were added or removed, as targets or as probes
abbrev pub Arrives : Board → Board → Names → List NameId → Type 0
Arrives old new names all = Arriving old new names all []

abbrev pub Departs : Board → Board → Names → List NameId → Type 0
Departs old new names all = Leaving old new names all []

abbrev pub Asks : Board → Board → Names → List NameId → Type 0
Asks old new names all = Asking old new names all []

abbrev pub Unasks : Board → Board → Names → List NameId → Type 0
Unasks old new names all = Unasking old new names all []
