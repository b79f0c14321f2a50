use Rattle.std.proofs.Common.{◌+◌, ◌-◌, true, ap, refl, arith}
use Rattle.std.specs.Prelude.{min}
use Rattle.level_board.specs.declared.parts.BoardParts.{BoardParts}
use Rattle.level_board.specs.Board.{board_of_parts, find_times, IsBoard, target_times, TargetsTo}
use Rattle.level_board.proofs.Marks.{all_exact}
use Rattle.level_board.proofs.Sides.{none_there, target_added}
use Rattle.level_board.proofs.parts.BoardParts.add_target.Given.{Over}
use Rattle.level_board.proofs.parts.BoardParts.add_target.Goals as goal
use Rattle.level_board.proofs.parts.BoardParts.add_target.Goals.{After-count_target}

-- the board with the added target, counted at the probes
module _ (g : Over) (c : After-count_target g) where
  abbrev after : BoardParts
  after = record { probes = c.count_target.new.probes; targets = c.insert_times.new.targets; probe_index = c.args.self.now.probe_index; target_index = c.add.new.self; probe_room = c.args.self.now.probe_room; target_room = c.args.self.now.target_room - 1 }

  both : IsBoard after × TargetsTo (board_of_parts c.args.self.now) (board_of_parts after) c.args.table.now c.args.id.0 (target_times (board_of_parts c.args.self.now) c.args.id.0 + 1)
  both =
      target_added c.args.self.now after c.args.table.now c.args.id.0 c.requires.board c.requires.fits c.requires.live true refl refl (ap (min c.args.self.now.probe_index.wide) c.add.ensures.wide) c.count_target.ensures.exact c.count_target.ensures.counted c.count_target.ensures.spare c.count_target.ensures.length c.count_target.ensures.capacity
      refl c.requires.room (none_there (find_times c.args.self.now.targets.entries c.args.id.0) (c.requires.board.target_some c.args.id.0) (omega (arith, c.times_of-times.ensures, c.if-times-gt0.false))) c.insert_times.ensures.targets c.add.ensures.added c.add.ensures.fits c.add.ensures.spare c.add.ensures.wide c.insert_times.ensures.spare refl

pub returns-clause-board : goal.returns-clause-board
returns-clause-board g c = (both g (goal.at.returns-clause-board g c).After-count_target).0

pub returns-clause-changes : goal.returns-clause-changes
returns-clause-changes g c = (both g (goal.at.returns-clause-changes g c).After-count_target).1

pub count_target-requires-clause-exact : goal.count_target-requires-clause-exact
count_target-requires-clause-exact g c = all_exact c.args.self.now.probes.rows.entries c.args.self.now.probes.marks.items c.requires.board.marks c.requires.marked
