use Rattle.std.proofs.Common.{◌≡◌, ◌++◌, length}
use Rattle.cpe_values.specs.Unspelling.{body_at, behind_body}
use Rattle.cpe_values.proofs.unspell.split_body.Given as goal

abbrev pub invariant-loop-byte : goal.invariant-loop-byte
invariant-loop-byte l = record { body : body_at l.bytes ≡ l.body.items ++ body_at l.rest; rest : behind_body l.rest ≡ behind_body l.bytes }

abbrev pub decreases-loop-byte : goal.decreases-loop-byte
decreases-loop-byte l = length l.rest
