use Rattle.std.proofs.Common.{◌+◌, ◌-◌, length}
use Rattle.std.specs.Ordering.{nat_cmp}
use Rattle.std.specs.BTreeSet as set
use Rattle.deprecation_graph.proofs.SearchLemmas.{Explores}
use Rattle.deprecation_graph.specs.Indexed.{list_of_node}
use Rattle.deprecation_graph.specs.Kept.{lists_after}
use Rattle.deprecation_graph.proofs.search.find_reached.Given as goal

abbrev pub invariant-loop-node : goal.invariant-loop-node
invariant-loop-node l = record {
  ordered : set.IsOrdered nat_cmp l.found;
  search : Explores (list_of_node (lists_after l.lists.lists l.change)) l.start l.found l.todo.items;
}

abbrev pub decreases-loop-node : goal.decreases-loop-node
decreases-loop-node l = length l.lists.lists + length l.todo.items - length l.found.keys
