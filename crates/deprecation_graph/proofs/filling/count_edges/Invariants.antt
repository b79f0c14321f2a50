use Rattle.std.proofs.Common.{◌*◌, ◌≤◌}
use Rattle.deprecation_graph.proofs.filling.count_edges.Given as goal

abbrev pub invariant-loop-list : goal.invariant-loop-list
invariant-loop-list l = l.count ≤ 16 * l.list-index
