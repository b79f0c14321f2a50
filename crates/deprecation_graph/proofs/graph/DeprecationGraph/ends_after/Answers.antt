use Rattle.std.proofs.Common.{ap, sym, subst, List}
use Rattle.std.specs.Option.{option_copied}
use Rattle.deprecation_graph.specs.Graph.{Node, Graph, NamesNodes}
use Rattle.deprecation_graph.proofs.KeptLemmas.{kept_change}
use Rattle.deprecation_graph.proofs.StoredLemmas.{node_in}
use Rattle.deprecation_graph.proofs.graph.DeprecationGraph.ends_after.Goals as goal

pub find_ends-requires-clause-closed : goal.find_ends-requires-clause-closed
find_ends-requires-clause-closed c = kept_change c.self.inside.kept c.args.changed (option_copied c.args.next) c.self.invariant.sound (subst (λ (nodes : List Node). NamesNodes nodes c.args.changed (option_copied c.args.next)) (sym (ap (λ (g : Graph). g.nodes) c.self.view_is)) c.requires.change)

pub find_ends-requires-clause-start : goal.find_ends-requires-clause-start
find_ends-requires-clause-start c = node_in c.self.inside.kept c.args.self.now.nodes c.args.node c.self.invariant.sound (ap (λ (g : Graph). g.nodes) c.self.view_is) c.requires.node
