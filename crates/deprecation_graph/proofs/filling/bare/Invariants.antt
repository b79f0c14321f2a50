use Rattle.std.proofs.Common.{◌≡◌, ◌+◌, ◌≤◌, None, length, replicate}
use Rattle.deprecation_graph.specs.Graph.{node_of}
use Rattle.deprecation_graph.proofs.filling.bare.Given as goal

abbrev pub invariant-loop : goal.invariant-loop
invariant-loop l = record {
  nodes : l.graph.nodes ≡ replicate l.counter (node_of None);
  room : length l.lists ≤ l.graph.room_nodes + l.counter;
}
