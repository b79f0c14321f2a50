use Rattle.std.proofs.Common.{◌≡◌, ◌≤◌, List, sym, ap, ◌∙◌, subst}
use Rattle.std.specs.List.{AllByRecursion}
use Rattle.cpe_rows.specs.cpe_name.Eleven.{Values}
use Rattle.name_index.specs.Table.{Names}
use Rattle.name_index.specs.declared.table.NameId.{NameId}
use Rattle.level_board.specs.Board.{Board, FitsBoard, probe_times, target_times}
use Rattle.fact_laws.specs.Shown.{names_at, Shows}
use Rattle.cpe_rows.specs.declared.truth.Truth.{Truth}
use Rattle.fact_boards.specs.Lists.{truth_of_names}
use Rattle.fact_boards.specs.Kept.{board_of_mode, Boards}
use Rattle.fact_boards.proofs.Answers.{answer_kept}
use Rattle.fact_boards.proofs.kept.KeptFacts.truth.Goals as goal

-- the truth that a board gives, if all numbers are probes
abbrev Answers : List NameId → Truth → Board → Type 0
Answers numbers answer board =
    AllByRecursion (λ (x : NameId). 1 ≤ probe_times board x.0) numbers → (names : Names) (list : List Values) → FitsBoard board names → Shows names (target_times board) list → answer ≡ truth_of_names (names_at names numbers) list

pub returns-in-Plain : goal.returns-in-Plain
returns-in-Plain c some =
    answer_kept c.args.self.now c.args.mode c.args.numbers.now c.truth_by.result
    (subst (Answers c.args.numbers.now c.truth_by.result) (ap (λ (b : Boards). b.plain) c.self.view_is ∙ ap (board_of_mode c.args.self.now) (sym c.in-Plain.is)) c.truth_by.ensures some)

pub returns-in-Follow : goal.returns-in-Follow
returns-in-Follow c some =
    answer_kept c.args.self.now c.args.mode c.args.numbers.now c.truth_by-in-Follow.result
    (subst (Answers c.args.numbers.now c.truth_by-in-Follow.result) (ap (λ (b : Boards). b.follow) c.self.view_is ∙ ap (board_of_mode c.args.self.now) (sym c.in-Follow.is)) c.truth_by-in-Follow.ensures some)
