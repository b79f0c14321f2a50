use Rattle.std.proofs.Common.{◌≡◌, length}
use Rattle.advise_versions.specs.Order.{version_order}
use Rattle.advise_versions.proofs.order.version_cmp.Given as goal

abbrev pub invariant-loop-piece : goal.invariant-loop-piece
invariant-loop-piece l = version_order l.left l.right ≡ version_order l.a l.b

abbrev pub decreases-loop-piece : goal.decreases-loop-piece
decreases-loop-piece l = length l.left
