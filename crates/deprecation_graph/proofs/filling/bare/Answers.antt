use Rattle.std.proofs.Common.{◌∙◌, ◌∷◌, ◌++◌, [], List, None, ap, arith}
use Rattle.std.proofs.lemmas.List.{replicate_more}
use Rattle.deprecation_graph.specs.Graph.{Node, node_of}
use Rattle.deprecation_graph.proofs.filling.bare.Goals as goal

pub loop-preserved : goal.loop-preserved
loop-preserved c = record {
  nodes = c.add_node.ensures.nodes ∙ ap (λ (nodes : List Node). nodes ++ node_of None ∷ []) c.loop.invariant.nodes ∙ replicate_more c.loop.counter
      (node_of None);
  room = omega (arith, c.add_node.ensures.room_nodes, c.loop.invariant.room);
}
