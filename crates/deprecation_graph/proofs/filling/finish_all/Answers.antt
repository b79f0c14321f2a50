use Rattle.std.proofs.Common.{below_more, arith}
use Rattle.deprecation_graph.proofs.ListLemmas.{count_nodes}
use Rattle.deprecation_graph.proofs.StepLemmas.{finished, stays_entered}
use Rattle.deprecation_graph.proofs.filling.finish_all.Goals as goal

pub loop-node-preserved : goal.loop-node-preserved
loop-node-preserved c = record {
  filling = c.in_ok-visit.ensures.filling;
  idle = c.in_ok-visit.ensures.idle;
  entered = below_more _ _ (λ a lt. stays_entered c.loop-node.filling.marks.items c.visit.new.filling.marks.items a c.in_ok-visit.ensures.newer
      (c.loop-node.invariant.entered a lt)) c.in_ok-visit.ensures.entered;
}

pub returns-clause-nodes : goal.returns-clause-nodes
returns-clause-nodes c = finished c.loop-node.invariant.filling c.loop-node.invariant.idle
    (λ a lt. c.loop-node.invariant.entered a (omega (arith, count_nodes c.args.lists.now)))
