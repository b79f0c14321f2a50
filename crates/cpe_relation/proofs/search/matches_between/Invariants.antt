use Rattle.std.proofs.Common.{◌≡◌, ◌≤◌, ◌<◌, ◌+◌, ◌-◌, ℕ}
use Rattle.cpe_relation.specs.Folded.{table_index}
use Rattle.cpe_relation.proofs.search.matches_between.Given as goal

abbrev pub invariant-loop-j : goal.invariant-loop-j
invariant-loop-j l = (l.j ≤ l.high) × ((k : ℕ) → l.j ≤ k → k < l.high → table_index l.body k ≡ table_index l.text (l.pos + k))

abbrev pub decreases-loop-j : goal.decreases-loop-j
decreases-loop-j l = l.j - l.low
