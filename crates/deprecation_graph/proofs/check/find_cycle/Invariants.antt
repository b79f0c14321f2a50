use Rattle.std.proofs.Common.{◌≡◌, ◌+◌, drop, length}
use Rattle.std.specs.List.{position_from}
use Rattle.deprecation_graph.specs.Chains.{reaches}
use Rattle.deprecation_graph.specs.Graph.{next_of_node}
use Rattle.deprecation_graph.specs.Faults.{cycle_in}
use Rattle.deprecation_graph.specs.Kept.{nodes_in}
use Rattle.deprecation_graph.proofs.check.find_cycle.Given as goal

abbrev pub invariant-loop-successor : goal.invariant-loop-successor
invariant-loop-successor l = record {
  place : l.place ≡ l.successor-index;
  rest : cycle_in (nodes_in l.kept) l.node l.next ≡ position_from (λ b. reaches (next_of_node (nodes_in l.kept)) (length (nodes_in l.kept)) b l.node) (l.place + 1) (drop l.successor-index l.next);
}
