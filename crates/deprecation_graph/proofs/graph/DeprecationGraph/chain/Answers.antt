use Rattle.std.proofs.Common.{ap}
use Rattle.deprecation_graph.specs.Graph.{Graph}
use Rattle.deprecation_graph.proofs.KeptLemmas.{kept_closed}
use Rattle.deprecation_graph.proofs.StoredLemmas.{node_in}
use Rattle.deprecation_graph.proofs.graph.DeprecationGraph.chain.Goals as goal

pub find_chain-requires-clause-closed : goal.find_chain-requires-clause-closed
find_chain-requires-clause-closed c = kept_closed c.self.inside.kept c.self.invariant.sound

pub find_chain-requires-clause-start : goal.find_chain-requires-clause-start
find_chain-requires-clause-start c = node_in c.self.inside.kept c.args.self.now.nodes c.args.node c.self.invariant.sound (ap (λ (g : Graph). g.nodes) c.self.view_is) c.requires
