use Rattle.std.proofs.Common.{ap, arith, length, List, ℕ, Option}
use Rattle.deprecation_graph.specs.Graph.{successors}
use Rattle.deprecation_graph.proofs.filling.count_edges.Goals as goal

pub overflow_add-count : goal.overflow_add-count
overflow_add-count c = omega (
  arith,
  c.loop-list.invariant,
  c.requires.few,
  ap length c.successors.ensures,
  ap (λ (list : Option (List ℕ)). length (successors list)) c.list-item.is,
  (c.requires.each c.loop-list.list-index c.list-item.result c.loop-list-test.true).brief.few,
)
