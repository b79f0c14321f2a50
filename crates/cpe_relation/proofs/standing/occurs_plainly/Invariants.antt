use Rattle.std.proofs.Common.{◌≤◌, ◌<◌, ℕ}
use Rattle.cpe_relation.specs.Standing.{HasBodyAt}
use Rattle.cpe_relation.proofs.standing.occurs_plainly.Given as goal

abbrev pub invariant-loop-place : goal.invariant-loop-place
invariant-loop-place l = (k : ℕ) → l.low ≤ k → k < l.place → HasBodyAt l.text l.body k → ⊥
