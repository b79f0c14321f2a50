use Rattle.std.proofs.Common.{◌≡◌, ◌+◌, ◌*◌, ◌++◌, length}
use Rattle.name_index.specs.Walk.{all_runs, IsWalkIn}
use Rattle.name_index.proofs.walk.NearProductsIterator.next.Given as goal

abbrev pub invariant-loop-self : goal.invariant-loop-self
invariant-loop-self l = record {
  left : l.fn.self ≡ l.self-inside.first ++ l.self-inside.second ++ l.self-inside.third ++ all_runs l.self-inside.values.now l.self-inside.order.now.items l.self-inside.text.now l.self-inside.fronts l.self-inside.ends;
  present : IsWalkIn l.self-inside.values.now l.self-inside.order.now.items l.self-inside.text.now l.self-inside.fronts l.self-inside.ends;
}

abbrev pub decreases-loop-self : goal.decreases-loop-self
decreases-loop-self l = length l.self-inside.second + 2 * length l.self-inside.third + l.self-inside.fronts + l.self-inside.ends
