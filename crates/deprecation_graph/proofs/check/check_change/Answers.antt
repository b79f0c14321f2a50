use Rattle.std.proofs.Common.{arith}
use Rattle.std.specs.Option.{option_copied}
use Rattle.deprecation_graph.proofs.KeptLemmas.{length-nodes_of, kept_successors}
use Rattle.deprecation_graph.proofs.check.check_change.Goals as goal

pub find_cycle-requires-clause-next : goal.find_cycle-requires-clause-next
find_cycle-requires-clause-next c = kept_successors c.args.kept.now c.args.change.node (option_copied c.args.change.next) c.successors.result.now c.requires.kept c.requires.change.names c.successors.ensures

pub find_cycle-requires-clause-node : goal.find_cycle-requires-clause-node
find_cycle-requires-clause-node c = omega (arith, c.requires.change.names.node, length-nodes_of c.args.kept.now.active.items c.args.kept.now.next.lists c.requires.kept.next)
