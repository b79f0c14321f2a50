-- Levels give facts the truths that the rows give them.
use Rattle.std.proofs.Common.{◌≡◌, ℕ, ◌≤◌, List, [], ◌∷◌, refl, sym, ap, ◌∙◌}
use Rattle.std.specs.List.{AllByRecursion, list_any}
use Rattle.cpe_rows.specs.cpe_name.Eleven.{Values}
use Rattle.cpe_rows.specs.cpe_relation.Maybe.{maybe}
use Rattle.cpe_rows.specs.cpe_relation.NameRelation.{covers}
use Rattle.name_index.specs.declared.table.NameId.{NameId}
use Rattle.name_index.specs.Table.{Names, kept_at}
use Rattle.fact_boards.specs.level_board.Rows.{level_now}
use Rattle.fact_boards.specs.level_board.Board.{AreAnswers, Board, FitsBoard, level_at, level_in, probe_times, target_times}
use Rattle.fact_boards.specs.level_board.declared.level.Level.{Level}
use Rattle.fact_boards.specs.level_board.declared.level.Level.TheVariants.{Covered, Maybe, Free}
use Rattle.cpe_rows.specs.Rows.{Rows}
use Rattle.cpe_rows.specs.Truth.{or_of}
use Rattle.cpe_rows.specs.Verdict.{fact_truth, truth}
use Rattle.cpe_rows.specs.declared.statement.Mode.{Mode}
use Rattle.fact_laws.specs.Shown.{name_at, names_at}
use Rattle.fact_laws.proofs.Shown.{shown_passes, passing_shown}
use Rattle.fact_laws.specs.Asked.{leads, target_names}
use Rattle.fact_boards.specs.Lists.{truth_of_names}
use Rattle.fact_boards.specs.Kept.{ShowsRows}
use Rattle.fact_boards.proofs.Truths.{either_more, first_truth, level_shown, level_truth}
use Rattle.fact_boards.proofs.Answers.{fact_kept, seen_there}
use Rattle.fact_rows.specs.Truths.{any_covered, any_maybe, is_covered_level, is_maybe_level, truth_at_ends}

-- the truth of one level
of_level : (level : Level) → truth (is_covered_level level) (is_maybe_level level) ≡ level_truth level
of_level Covered = refl
of_level Maybe = refl
of_level Free = refl

module _ (names : Names) (board : Board) (rows : Rows) (mode : Mode) (answers : AreAnswers board) (fits : FitsBoard board names) (shows : ShowsRows names board rows mode) where
  level_right : (p : ℕ) → 1 ≤ probe_times board p
      → truth (is_covered_level (level_at board p)) (is_maybe_level (level_at board p)) ≡ truth (list_any (covers (kept_at names p).name) (target_names rows mode)) (list_any (maybe (kept_at names p).name) (target_names rows mode))
  level_right p some =
      let s = seen_there board p some in
      ap (λ (l : Level). truth (is_covered_level l) (is_maybe_level l)) (ap level_in s.1)
      ∙ of_level (level_now s.0)
      ∙ level_shown board names (target_names rows mode) p (λ passes id. shown_passes names (target_times board) (target_names rows mode) passes id shows.there) (λ passes. passing_shown names (target_times board) (target_names rows mode) passes shows.there) (level_now s.0) (answers names p s.0 fits s.1)

  names_right : (numbers : List NameId) → AllByRecursion (λ (x : NameId). 1 ≤ probe_times board x.0) numbers → truth_at_ends board numbers ≡ truth_of_names (names_at names numbers) (target_names rows mode)
  names_right [] on = refl
  names_right (x ∷ numbers) on =
      either_more (is_covered_level (level_at board x.0)) (is_maybe_level (level_at board x.0)) (any_covered board numbers) (any_maybe board numbers)
      ∙ (λ i. or_of (level_right x.0 on.0 i) (names_right numbers on.1 i))
      ∙ sym (first_truth (name_at names x) (names_at names numbers) (target_names rows mode))

  pub shown : (fact : Values) (numbers : List NameId) → AllByRecursion (λ (x : NameId). 1 ≤ probe_times board x.0) numbers → names_at names numbers ≡ leads rows.entries mode fact → truth_at_ends board numbers ≡ fact_truth rows mode fact
  shown fact numbers on e = names_right numbers on ∙ sym (fact_kept rows mode names fact numbers e)
