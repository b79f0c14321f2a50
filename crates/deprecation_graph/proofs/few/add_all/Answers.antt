use Rattle.deprecation_graph.proofs.FewLemmas.{Adds-none, Adds-more}
use Rattle.deprecation_graph.proofs.few.add_all.Goals as goal

pub loop-node-init : goal.loop-node-init
loop-node-init c = Adds-none _

pub loop-node-preserved : goal.loop-node-preserved
loop-node-preserved c = Adds-more c.args.nodes.now c.loop-node.node-index 0 c.loop-node-test.true c.loop-node.invariant c.in_ok-add.ensures
