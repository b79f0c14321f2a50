use Rattle.std.proofs.Common.{arith}
use Rattle.deprecation_graph.proofs.KeptLemmas.{length-nodes_of}
use Rattle.deprecation_graph.proofs.check.find_wide.Goals as goal

pub is_empty-requires : goal.is_empty-requires
is_empty-requires c = omega (arith, c.requires.change.names.node, c.requires.kept.before, length-nodes_of c.args.kept.now.active.items c.args.kept.now.next.lists c.requires.kept.next)
