use Rattle.std.proofs.Common.{◌≤◌, subst}
use Rattle.name_index.specs.Index.{times_held}
use Rattle.level_board.specs.Targets.{Targets, held}
use Rattle.level_board.proofs.targets.TargetIndex.lawful.Goals as goal

pub returns : goal.returns
returns c id = subst (λ (t : Targets). times_held (held t) id ≤ 1) c.self.view_is (c.self.invariant.once id)
