use Rattle.std.proofs.Common.{◌≡◌, drop}
use Rattle.std.specs.List.{find}
use Rattle.std.specs.Option.{option_copied}
use Rattle.deprecation_graph.specs.Graph.{changed_nodes}
use Rattle.deprecation_graph.specs.Faults.{is_wide_node}
use Rattle.deprecation_graph.specs.Kept.{nodes_in}
use Rattle.deprecation_graph.proofs.check.find_wide_among.Given as goal

abbrev pub invariant-loop-node : goal.invariant-loop-node
invariant-loop-node l =
    let wide = is_wide_node (changed_nodes (nodes_in l.kept) l.change.node (option_copied l.change.next)) in find wide l.nodes ≡ find wide (drop l.node-index l.nodes)
