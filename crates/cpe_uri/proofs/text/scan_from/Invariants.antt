use Rattle.std.proofs.Common.{◌≡◌, length}
use Rattle.cpe_uri.specs.TextMachine.{read_from}
use Rattle.cpe_uri.proofs.text.scan_from.Given as goal

abbrev pub invariant-loop-rest : goal.invariant-loop-rest
invariant-loop-rest l = read_from l.packed l.state l.rest ≡ read_from l.packed l.fn.start l.fn.bytes

abbrev pub decreases-loop-rest : goal.decreases-loop-rest
decreases-loop-rest l = length l.rest
