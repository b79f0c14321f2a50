-- The names that most contracts of kept facts and their boards use, in one place.
pub use Rattle.name_index.specs.Elements.{SameElements}
pub use Rattle.name_index.specs.Index.{ids, is_covered}
pub use Rattle.name_index.specs.Table.{HasName, IsLive, Names, kept_at}
pub use Rattle.name_index.specs.step_count.Within.{StepsWithin}
pub use Rattle.level_board.specs.Targets.{is_maybe_target, is_met}
pub use Rattle.level_board.specs.Board.{probe_times, target_ids}
pub use Rattle.fact_laws.specs.Shown.{names_at}
pub use Rattle.fact_laws.specs.Asked.{fresh_facts, leads}
pub use Rattle.fact_boards.specs.Lists.{IsWide}
pub use Rattle.fact_boards.specs.Kept.{AreFactNames, AreSound, FitBoards, ShowRows, board_of_mode}
