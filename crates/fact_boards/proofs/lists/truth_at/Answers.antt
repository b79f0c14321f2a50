use Rattle.std.proofs.Common.{◌≡◌, ◌≤◌, List, subst}
use Rattle.std.specs.List.{list_any}
use Rattle.cpe_rows.specs.cpe_name.Eleven.{Values}
use Rattle.cpe_rows.specs.cpe_relation.Maybe.{maybe}
use Rattle.cpe_rows.specs.cpe_relation.NameRelation.{covers}
use Rattle.cpe_rows.specs.Verdict.{truth}
use Rattle.name_index.specs.Table.{Names}
use Rattle.level_board.specs.Board.{FitsBoard, HasLevel, probe_times, target_times}
use Rattle.level_board.specs.declared.level.Level.{Level}
use Rattle.level_board.specs.declared.level.Level.TheVariants.{Covered, Maybe, Free}
use Rattle.fact_laws.specs.Shown.{name_at, Shows}
use Rattle.fact_boards.proofs.Truths.{level_shown, level_truth}
use Rattle.fact_boards.proofs.lists.truth_at.Goals as goal
use Rattle.fact_boards.proofs.lists.truth_at.Goals.{After-level}

-- the truth that a level gives is the truth by the names of the targets
reported : (c : After-level) (level : Level) → c.level.result ≡ level → 1 ≤ probe_times c.args.board.now c.args.id.0 → (names : Names) (there : List Values) → FitsBoard c.args.board.now names → Shows names (target_times c.args.board.now) there
    → level_truth level ≡ truth (list_any (covers (name_at names c.args.id)) there) (list_any (maybe (name_at names c.args.id)) there)
reported c level is some names there fits shows =
    level_shown c.args.board.now names there c.args.id.0
    (λ passes id. c.lists_are_shown.ensures.somewhere names (target_times c.args.board.now) there passes id shows)
    (λ passes. c.lists_are_shown.ensures.passing names (target_times c.args.board.now) there passes shows) level
    (subst (HasLevel c.args.board.now names c.args.id.0) is (c.level.ensures.probe some names fits))

pub returns-in-Covered : goal.returns-in-Covered
returns-in-Covered c = reported (goal.at.returns-in-Covered c).After-level Covered c.in-Covered.is

pub returns-in-Maybe : goal.returns-in-Maybe
returns-in-Maybe c = reported (goal.at.returns-in-Maybe c).After-level Maybe c.in-Maybe.is

pub returns-in-Free : goal.returns-in-Free
returns-in-Free c = reported (goal.at.returns-in-Free c).After-level Free c.in-Free.is
