use Rattle.std.proofs.Common.{◌≡◌, false, drop, slice_index_or}
use Rattle.std.specs.List.{list_all}
use Rattle.deprecation_graph.proofs.check.are_active.Given as goal

abbrev pub invariant-loop-successor : goal.invariant-loop-successor
invariant-loop-successor l = list_all (λ node. slice_index_or l.active node false) l.next ≡ list_all (λ node. slice_index_or l.active node false) (drop l.successor-index l.next)
