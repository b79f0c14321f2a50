use Rattle.std.proofs.Common.{◌≡◌, ◌≤◌, ◌<◌, ◌+◌, ◌-◌, ℕ}
use Rattle.cpe_relation.specs.Folded.{table_index}
use Rattle.cpe_relation.proofs.search.matched_to.Given as goal

abbrev pub invariant-loop-i : goal.invariant-loop-i
invariant-loop-i l = (l.start ≤ l.i) × (l.i ≤ l.m) × ((k : ℕ) → l.start ≤ k → k < l.i → table_index l.body k ≡ table_index l.text (l.pos + k))

abbrev pub decreases-loop-i : goal.decreases-loop-i
decreases-loop-i l = l.m - l.i
