use Rattle.std.proofs.Common.{ℕ, is_some, sym, ap, subst, ◌∙◌, arith}
use Rattle.level_board.specs.Rows.{find_row, IsMarkList}
use Rattle.level_board.specs.Board.{times_if}
use Rattle.level_board.proofs.Marks.{cleared_list, unmarked_some, unmarked_times}
use Rattle.level_board.proofs.parts.BoardParts.clear_marks.Goals as goal

pub returns-clause-board : goal.returns-clause-board
returns-clause-board c =
    let i = c.requires.board in
    let rows = c.args.self.now.probes.rows.entries in
    let new = c.clear_marks.new.self.rows.entries in
    let is = c.clear_marks.ensures.rows in
    record {
      marks = subst (IsMarkList new) (sym c.clear_marks.ensures.none) (cleared_list rows new is);
      probes_on = λ p. i.probes_on p ∙ ap {B = ℕ} times_if (sym (unmarked_some (find_row rows p)) ∙ sym (ap is_some (is p)));
      targets_on = i.targets_on;
      probe_some = λ p s e. unmarked_times (find_row rows p) (i.probe_some p) s (sym (is p) ∙ e);
      target_some = i.target_some;
      rows_room = omega (arith, i.rows_room, c.clear_marks.ensures.spare);
      marks_room = omega (arith, i.marks_room, c.clear_marks.ensures.length, c.clear_marks.ensures.capacity);
      probe_index_room = i.probe_index_room;
      targets_room = i.targets_room;
      target_index_room = i.target_index_room;
      targets_few = i.targets_few;
    }
