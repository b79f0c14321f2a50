use Rattle.std.proofs.Common.{◌≡◌, length}
use Rattle.cpe_values.specs.Skipping.{skip_while}
use Rattle.cpe_values.proofs.bare.skip.Given as goal

abbrev pub invariant-loop-rest : goal.invariant-loop-rest
invariant-loop-rest g l = skip_while g.C.Class.contains l.rest ≡ skip_while g.C.Class.contains l.bytes

abbrev pub decreases-loop-rest : goal.decreases-loop-rest
decreases-loop-rest g l = length l.rest
