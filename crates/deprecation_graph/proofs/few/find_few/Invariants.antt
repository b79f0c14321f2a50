use Rattle.std.proofs.Common.{◌-◌}
use Rattle.deprecation_graph.proofs.FewLemmas.{Reads}
use Rattle.deprecation_graph.specs.declared.few.TheConstants.{FEW}
use Rattle.deprecation_graph.specs.Indexed.{list_of_node}
use Rattle.deprecation_graph.specs.Kept.{lists_after}
use Rattle.deprecation_graph.proofs.few.find_few.Given as goal

abbrev pub invariant-loop-place : goal.invariant-loop-place
invariant-loop-place l = Reads (list_of_node (lists_after l.lists.lists l.change)) l.start l.found.items l.place

abbrev pub decreases-loop-place : goal.decreases-loop-place
decreases-loop-place l = FEW - l.place
