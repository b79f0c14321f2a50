use Rattle.std.proofs.Common.{◌-◌, ℕ, false, ap, refl, arith}
use Rattle.std.specs.Prelude.{min}
use Rattle.level_board.specs.declared.parts.BoardParts.{BoardParts}
use Rattle.level_board.specs.Board.{board_of_parts, find_times, IsBoard, times_if, target_times, TargetsTo}
use Rattle.level_board.proofs.Marks.{all_exact}
use Rattle.level_board.proofs.Sides.{some_there, target_dropped}
use Rattle.level_board.proofs.parts.BoardParts.drop_target.Given.{Over}
use Rattle.level_board.proofs.parts.BoardParts.drop_target.Goals as goal
use Rattle.level_board.proofs.parts.BoardParts.drop_target.Goals.{After-count_target}

-- the board without the removed target, no longer counted at the probes
module _ (g : Over) (c : After-count_target g) where
  abbrev after : BoardParts
  after = record { probes = c.count_target.new.probes; targets = c.remove_times.new.targets; probe_index = c.args.self.now.probe_index; target_index = c.drop_name.new.self; probe_room = c.args.self.now.probe_room; target_room = c.args.self.now.target_room }

  both : IsBoard after × TargetsTo (board_of_parts c.args.self.now) (board_of_parts after) c.args.table.now c.args.id.0 (target_times (board_of_parts c.args.self.now) c.args.id.0 - 1)
  both =
      target_dropped c.args.self.now after c.args.table.now c.args.id.0 c.requires.board c.requires.fits c.requires.live false refl refl (ap (min c.args.self.now.probe_index.wide) c.drop_name.ensures.wide) c.count_target.ensures.exact c.count_target.ensures.counted c.count_target.ensures.spare c.count_target.ensures.length c.count_target.ensures.capacity
      refl (omega (arith, c.times_of-times.ensures, c.if-times-gt1.false, c.requires.some)) c.remove_times.ensures.targets c.drop_name.ensures.dropped c.drop_name.ensures.fits c.drop_name.ensures.spare c.drop_name.ensures.wide c.remove_times.ensures.spare refl

pub returns-clause-board : goal.returns-clause-board
returns-clause-board g c = (both g (goal.at.returns-clause-board g c).After-count_target).0

pub returns-clause-changes : goal.returns-clause-changes
returns-clause-changes g c = (both g (goal.at.returns-clause-changes g c).After-count_target).1

pub drop_name-requires-clause-held : goal.drop_name-requires-clause-held
drop_name-requires-clause-held g c = omega (arith, c.requires.board.targets_on c.args.id.0, ap {B = ℕ} times_if (some_there (find_times c.args.self.now.targets.entries c.args.id.0) c.requires.some))

pub count_target-requires-clause-exact : goal.count_target-requires-clause-exact
count_target-requires-clause-exact g c = all_exact c.args.self.now.probes.rows.entries c.args.self.now.probes.marks.items c.requires.board.marks c.requires.marked
