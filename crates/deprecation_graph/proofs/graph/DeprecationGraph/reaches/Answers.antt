use Rattle.std.proofs.Common.{ap}
use Rattle.deprecation_graph.specs.Graph.{Graph}
use Rattle.deprecation_graph.proofs.GraphLemmas.{led_to_is}
use Rattle.deprecation_graph.specs.Kept.{nodes_in}
use Rattle.deprecation_graph.proofs.StoredLemmas.{node_in}
use Rattle.deprecation_graph.proofs.graph.DeprecationGraph.reaches.Goals as goal

pub is_led_to-requires-clause-from : goal.is_led_to-requires-clause-from
is_led_to-requires-clause-from c = node_in c.self.inside.kept c.args.self.now.nodes c.args.from c.self.invariant.sound (ap (λ (g : Graph). g.nodes) c.self.view_is) c.requires.from

pub returns : goal.returns
returns c = led_to_is (nodes_in c.self.inside.kept) c.args.self.now.nodes c.args.from c.args.to (ap (λ (g : Graph). g.nodes) c.self.view_is) c.self.invariant.sound.lawful.closed c.requires.from c.in_ok-is_led_to.ensures

pub is_led_to-requires-clause-to : goal.is_led_to-requires-clause-to
is_led_to-requires-clause-to c = node_in c.self.inside.kept c.args.self.now.nodes c.args.to c.self.invariant.sound (ap (λ (g : Graph). g.nodes) c.self.view_is) c.requires.to
