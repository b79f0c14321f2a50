use Rattle.std.proofs.Common.{ℕ, ◌-◌, ap, subst, ◌∙◌, refl, arith}
use Rattle.std.specs.Prelude.{min}
use Rattle.level_board.specs.declared.parts.BoardParts.{BoardParts}
use Rattle.level_board.specs.Rows.{find_row}
use Rattle.level_board.specs.Board.{board_of_parts, IsBoard, times_if, probe_times, ProbesTo}
use Rattle.level_board.proofs.Changes.{held_there}
use Rattle.level_board.proofs.Sides.{some_seen, after_dropped, times_set}
use Rattle.level_board.proofs.parts.BoardParts.drop_probe.Goals as goal
use Rattle.level_board.proofs.parts.BoardParts.drop_probe.Goals.{After-remove_row}

-- the board without the removed probe
module _ (c : After-remove_row) where
  abbrev after : BoardParts
  after = record { probes = record { rows = c.remove_row.new.rows; marks = c.args.self.now.probes.marks }; targets = c.args.self.now.targets; probe_index = c.drop_name.new.self; target_index = c.args.self.now.target_index; probe_room = c.args.self.now.probe_room; target_room = c.args.self.now.target_room }

  both : IsBoard after × ProbesTo (board_of_parts c.args.self.now) (board_of_parts after) c.args.table.now c.args.id.0 (probe_times (board_of_parts c.args.self.now) c.args.id.0 - 1)
  both =
      after_dropped c.args.self.now after c.args.table.now c.args.id.0 c.requires.board c.requires.fits c.requires.live refl refl refl (ap (λ (w : ℕ). min w c.args.self.now.target_index.wide) c.drop_name.ensures.wide) refl c.remove_row.ensures.reports
      (omega (arith, c.probe_times_of-times.ensures, c.if-times-gt1.false, c.requires.some)) c.drop_name.ensures.dropped c.drop_name.ensures.spare c.drop_name.ensures.wide c.remove_row.ensures.spare c.remove_row.ensures.length refl

pub returns-clause-board : goal.returns-clause-board
returns-clause-board c = (both (goal.at.returns-clause-board c).After-remove_row).0

pub returns-clause-changes : goal.returns-clause-changes
returns-clause-changes c = (both (goal.at.returns-clause-changes c).After-remove_row).1

pub drop_name-requires-clause-held : goal.drop_name-requires-clause-held
drop_name-requires-clause-held c = held_there c.args.table.now c.args.id.0 c.args.self.now.probe_index.held c.requires.fits.probes (c.requires.board.probes_on c.args.id.0 ∙ ap {B = ℕ} times_if (some_seen (find_row c.args.self.now.probes.rows.entries c.args.id.0) c.requires.some))

pub returns-then-times-gt1-clause-changes : goal.returns-then-times-gt1-clause-changes
returns-then-times-gt1-clause-changes c =
    let a = c.args.self.now in
    let b : BoardParts = record { probes = record { rows = c.set_row_times.new.rows; marks = c.args.self.now.probes.marks }; targets = c.args.self.now.targets; probe_index = c.args.self.now.probe_index; target_index = c.args.self.now.target_index; probe_room = c.args.self.now.probe_room; target_room = c.args.self.now.target_room } in
    subst (λ (n : ℕ). ProbesTo (board_of_parts c.args.self.now) (board_of_parts b) c.args.table.now c.args.id.0 (n - 1)) c.probe_times_of-times.ensures
    (times_set a b c.args.table.now c.args.id.0 (c.probe_times_of-times.result - 1) c.requires.fits refl refl refl refl refl refl c.set_row_times.ensures.reports c.requires.some)
