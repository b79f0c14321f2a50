use Rattle.std.proofs.Common.{◌≡◌, ℕ, ◌+◌, ◌-◌, length}
use Rattle.name_index.specs.Rows.{product_count_at}
use Rattle.name_index.proofs.table.make_count.Given as goal

abbrev pub invariant-loop-counts : goal.invariant-loop-counts
invariant-loop-counts l = (p : ℕ) → product_count_at l.counts.items p ≡ product_count_at l.initial.counts.items p

abbrev pub decreases-loop-counts : goal.decreases-loop-counts
decreases-loop-counts l = l.number + 1 - length l.counts.items
