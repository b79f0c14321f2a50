use Rattle.deprecation_graph.proofs.StoredLemmas.{stored_none}
use Rattle.deprecation_graph.proofs.graph.DeprecationGraph.new.Goals as goal

pub invariant_of-result : goal.invariant_of-result
invariant_of-result c = stored_none _ c.new.ensures.items c.new-2.ensures.lists c.new-3.ensures.lists c.new-5.ensures.items
