use Rattle.std.proofs.Common.{ap}
use Rattle.deprecation_graph.specs.Graph.{Graph}
use Rattle.deprecation_graph.proofs.StoredLemmas.{node_in}
use Rattle.deprecation_graph.proofs.graph.DeprecationGraph.sources.Goals as goal

pub find_sources-requires-clause-node : goal.find_sources-requires-clause-node
find_sources-requires-clause-node c = node_in c.self.inside.kept c.args.self.now.nodes c.args.node c.self.invariant.sound (ap (λ (g : Graph). g.nodes) c.self.view_is) c.requires
