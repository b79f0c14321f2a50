use Rattle.std.proofs.Common.{◌≡◌, ◌+◌, take, map}
use Rattle.cpe_rows.specs.Weight.{total_weight}
use Rattle.row_weight.specs.Capped.{capped}
use Rattle.cpe_engine.specs.Adopting.{given_weight}
use Rattle.cpe_engine.proofs.adopting.with_all.Given as goal

abbrev pub invariant-loop-deprecation : goal.invariant-loop-deprecation
invariant-loop-deprecation l = l.sum ≡ capped (l.weight + total_weight (map given_weight (take l.deprecation-index l.deprecations)))
