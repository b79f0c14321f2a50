use Rattle.std.proofs.Common.{refl, arith}
use Rattle.level_board.proofs.TargetChanges.{loose_live}
use Rattle.level_board.proofs.meeting.meet_loose.Goals as goal

pub loop-one-init : goal.loop-one-init
loop-one-init g c = record {
  live = loose_live c.args.table.now c.args.loose.now c.requires;
  looked = omega arith;
  found = refl;
}
