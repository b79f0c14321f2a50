use Rattle.std.proofs.Common.{◌≡◌, length}
use Rattle.cpe_name.specs.Scanning.{skip}
use Rattle.cpe_name.proofs.scan.skip_spaces.Given as goal

abbrev pub invariant-loop-rest : goal.invariant-loop-rest
invariant-loop-rest l = skip l.rest ≡ skip l.bytes

abbrev pub decreases-loop-rest : goal.decreases-loop-rest
decreases-loop-rest l = length l.rest
