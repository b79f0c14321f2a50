use Rattle.std.proofs.Common.{ap, length, arith}
use Rattle.deprecation_graph.specs.Graph.{Graph, edge_count}
use Rattle.deprecation_graph.proofs.StoredLemmas.{count_nodes, stored_regrown}
use Rattle.deprecation_graph.proofs.graph.DeprecationGraph.reserve.Goals as goal

pub reserve_kept-requires-clause-few_nodes : goal.reserve_kept-requires-clause-few_nodes
reserve_kept-requires-clause-few_nodes c = omega (arith, c.self.invariant.few_nodes, c.requires.nodes, count_nodes c.self.inside.kept c.self.invariant.sound, ap (λ (g : Graph). length g.nodes) c.self.view_is)

pub invariant_of-self-2 : goal.invariant_of-self-2
invariant_of-self-2 c = stored_regrown c.self.inside.kept c.reserve_kept.new.kept c.self.inside.room_nodes c.self.inside.room_edges c.max-room_nodes.result c.max-room_edges.result c.self.invariant c.in_ok-reserve_kept.ensures.regrown c.in_ok-reserve_kept.ensures.reserved
    (omega (arith, c.self.invariant.few_nodes, c.requires.nodes, count_nodes c.self.inside.kept c.self.invariant.sound, ap (λ (g : Graph). length g.nodes) c.self.view_is))
    (omega (arith, c.self.invariant.few_edges, c.requires.edges, ap (λ (g : Graph). edge_count g.nodes) c.self.view_is))
