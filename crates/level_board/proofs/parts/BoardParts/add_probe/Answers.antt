use Rattle.std.proofs.Common.{◌≡◌, ◌-◌, ◌+◌, ℕ, None, sym, ap, subst, ◌∙◌, refl, arith}
use Rattle.std.specs.Prelude.{min}
use Rattle.level_board.specs.declared.parts.BoardParts.{BoardParts}
use Rattle.level_board.specs.Board.{board_of_parts, IsBoard, probe_times, ProbesTo}
use Rattle.std.proofs.lemmas.Bool.{false≢true}
use Rattle.level_board.specs.Rows.{find_row, marked_in}
use Rattle.level_board.proofs.Marks.{all_marked, times_mark}
use Rattle.level_board.proofs.Sides.{after_added, none_seen, times_set}
use Rattle.level_board.proofs.parts.BoardParts.add_probe.Given.{Over}
use Rattle.level_board.proofs.parts.BoardParts.add_probe.Goals as goal
use Rattle.level_board.proofs.parts.BoardParts.add_probe.Goals.{After-insert_row}

-- the board with the added probe
module _ (g : Over) (c : After-insert_row g) where
  abbrev after : BoardParts
  after = record { probes = record { rows = c.insert_row.new.rows; marks = c.args.self.now.probes.marks }; targets = c.args.self.now.targets; probe_index = c.add.new.self; target_index = c.args.self.now.target_index; probe_room = c.args.self.now.probe_room - 1; target_room = c.args.self.now.target_room }

  both : IsBoard after × ProbesTo (board_of_parts c.args.self.now) (board_of_parts after) c.args.table.now c.args.id.0 (probe_times (board_of_parts c.args.self.now) c.args.id.0 + 1)
  both =
      after_added c.args.self.now after c.args.table.now c.args.id.0 c.requires.board c.requires.fits c.requires.live refl refl refl (ap (λ (w : ℕ). min w c.args.self.now.target_index.wide) c.add.ensures.wide) refl c.count_probe-counts.result.covered c.count_probe-counts.result.maybe c.insert_row.ensures.reports c.count_probe-counts.ensures.covered c.count_probe-counts.ensures.maybe c.requires.room
      (omega (arith, c.probe_times_of-times.ensures, c.if-times-gt0.false)) c.add.ensures.added c.add.ensures.spare c.add.ensures.wide c.insert_row.ensures.spare c.insert_row.ensures.length refl

pub returns-clause-board : goal.returns-clause-board
returns-clause-board g c = (both g (goal.at.returns-clause-board g c).After-insert_row).0

pub returns-clause-changes : goal.returns-clause-changes
returns-clause-changes g c = (both g (goal.at.returns-clause-changes g c).After-insert_row).1

pub returns-then-times-gt0-clause-changes : goal.returns-then-times-gt0-clause-changes
returns-then-times-gt0-clause-changes g c =
    let a = c.args.self.now in
    let b : BoardParts = record { probes = record { rows = c.set_row_times.new.rows; marks = c.args.self.now.probes.marks }; targets = c.args.self.now.targets; probe_index = c.args.self.now.probe_index; target_index = c.args.self.now.target_index; probe_room = c.args.self.now.probe_room; target_room = c.args.self.now.target_room } in
    subst (λ (n : ℕ). ProbesTo (board_of_parts c.args.self.now) (board_of_parts b) c.args.table.now c.args.id.0 (n + 1)) c.probe_times_of-times.ensures
    (times_set a b c.args.table.now c.args.id.0 (c.probe_times_of-times.result + 1) c.requires.fits refl refl refl refl refl refl c.set_row_times.ensures.reports (omega (arith, c.probe_times_of-times.ensures, c.if-times-gt0.true)))

pub returns-clause-marked : goal.returns-clause-marked
returns-clause-marked g c marked =
    let rows = c.args.self.now.probes.rows.entries in
    let gone : find_row rows c.args.id.0 ≡ None = none_seen (find_row rows c.args.id.0) (c.requires.board.probe_some c.args.id.0) (omega (arith, c.probe_times_of-times.ensures, c.if-times-gt0.false)) in
    all_marked rows c.insert_row.new.rows.entries c.args.self.now.probes.marks.items c.args.id.0 _ c.insert_row.ensures.reports (λ on. absurd (false≢true (sym (ap marked_in gone) ∙ on))) marked

pub returns-then-times-gt0-clause-marked : goal.returns-then-times-gt0-clause-marked
returns-then-times-gt0-clause-marked g c marked =
    let rows = c.args.self.now.probes.rows.entries in
    all_marked rows c.set_row_times.new.rows.entries c.args.self.now.probes.marks.items c.args.id.0 _ c.set_row_times.ensures.reports (times_mark _ (find_row rows c.args.id.0)) marked
