-- The truth of names by the levels of a board (NIST IR 7698; UNKNOWN is own).
use Rattle.std.specs.Prelude.{Bool, true, false, List}
use Rattle.std.specs.List.{list_any}
use Rattle.name_index.specs.declared.table.NameId.{NameId}
use Rattle.level_board.specs.Board.{Board}
use Rattle.level_board.specs.Board.{level_at}
use Rattle.level_board.specs.declared.level.Level.{Level}
use Rattle.level_board.specs.declared.level.Level.TheVariants.{Covered, Maybe}
use Rattle.cpe_rows.specs.Verdict.{truth}
use Rattle.cpe_rows.specs.declared.truth.Truth.{Truth}

abbrev pub is_covered_level : Level → Bool
is_covered_level Covered = true
is_covered_level _ = false

abbrev pub is_maybe_level : Level → Bool
is_maybe_level Maybe = true
is_maybe_level _ = false

-- some name covers a target of the board
abbrev pub any_covered : Board → List NameId → Bool
any_covered board names = list_any (λ (id : NameId). is_covered_level (level_at board id.0)) names

-- some name covers no target, but may cover one
abbrev pub any_maybe : Board → List NameId → Bool
any_maybe board names = list_any (λ (id : NameId). is_maybe_level (level_at board id.0)) names

-- TRUE if one of them covers a target, else UNKNOWN if one may, else FALSE
abbrev pub truth_at_ends : Board → List NameId → Truth
truth_at_ends board names = truth (any_covered board names) (any_maybe board names)
