use Rattle.std.proofs.Common.{◌≡◌, ◌+◌, take, map}
use Rattle.cpe_rows.specs.Weight.{total_weight, test_weight, weighs}
use Rattle.row_weight.specs.Capped.{capped}
use Rattle.row_weight.proofs.weigh.+with_test.Given as goal

abbrev pub invariant-loop-child : goal.invariant-loop-child
invariant-loop-child l = l.sum ≡ capped (l.weight + weighs 0 + total_weight (map test_weight (take l.child-index l.child-items)))
