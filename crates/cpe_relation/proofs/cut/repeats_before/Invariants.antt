use Rattle.std.proofs.Common.{◌≡◌, ℕ, ◌+◌, ◌<◌}
use Rattle.cpe_relation.specs.Folded.{table_index}
use Rattle.cpe_relation.proofs.cut.repeats_before.Given as goal

abbrev pub invariant-loop-k : goal.invariant-loop-k
invariant-loop-k l = (j : ℕ) → j < l.k → table_index l.body j ≡ table_index l.body (j + l.period)
