use Rattle.std.proofs.Common.{◌≡◌, ◌≤◌, List, drop}
use Rattle.std.specs.List.{AllByRecursion}
use Rattle.cpe_rows.specs.cpe_name.Eleven.{Values}
use Rattle.name_index.specs.declared.table.NameId.{NameId}
use Rattle.name_index.specs.Table.{Names}
use Rattle.level_board.specs.Board.{FitsBoard, probe_times, target_times}
use Rattle.cpe_rows.specs.Truth.{or_of}
use Rattle.fact_laws.specs.Shown.{names_at, Shows}
use Rattle.fact_boards.specs.Lists.{truth_of_names}
use Rattle.fact_boards.proofs.lists.truth_by.Given as goal

abbrev pub invariant-loop-id : goal.invariant-loop-id
invariant-loop-id l =
    AllByRecursion (λ (x : NameId). 1 ≤ probe_times l.board x.0) l.numbers → AllByRecursion (λ (x : NameId). 1 ≤ probe_times l.board x.0) (drop l.id-index l.numbers)
    × ((names : Names) (there : List Values) → FitsBoard l.board names → Shows names (target_times l.board) there
    → truth_of_names (names_at names l.numbers) there ≡ or_of l.truth (truth_of_names (names_at names (drop l.id-index l.numbers)) there))
