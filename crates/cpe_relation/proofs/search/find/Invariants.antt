use Rattle.std.proofs.Common.{◌≡◌, ◌≤◌, ◌<◌, ◌+◌, ◌-◌, ℕ, length}
use Rattle.memchr.specs.Find.{Nowhere}
use Rattle.memchr.specs.TwoWay.{OccursIn}
use Rattle.cpe_relation.specs.Folded.{table_index}
use Rattle.cpe_relation.proofs.search.find.Given as goal

abbrev pub invariant-loop-pos : goal.invariant-loop-pos
invariant-loop-pos l = (l.from ≤ l.pos) × (l.pos ≤ l.n)
    × Nowhere (OccursIn (table_index l.body) (length l.body) (table_index l.text) l.n) l.from l.pos
    × (l.known < length l.body)
    × ((k : ℕ) → k < l.known → table_index l.body k ≡ table_index l.text (l.pos + k))

abbrev pub decreases-loop-pos : goal.decreases-loop-pos
decreases-loop-pos l = l.n - l.pos
