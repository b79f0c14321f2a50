use Rattle.std.proofs.Common.{◌≡◌, ◌+◌, take, map}
use Rattle.cpe_rows.specs.Weight.{total_weight, name_weight}
use Rattle.row_weight.specs.Capped.{capped}
use Rattle.row_weight.proofs.weigh.with_deprecation.Given as goal

abbrev pub invariant-loop-name : goal.invariant-loop-name
invariant-loop-name l = l.sum ≡ capped (l.weight + total_weight (map name_weight (take l.name-index l.name-items)))
