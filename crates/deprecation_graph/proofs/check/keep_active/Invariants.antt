use Rattle.std.proofs.Common.{◌≡◌, take, false, slice_index_or}
use Rattle.std.specs.List.{filter}
use Rattle.deprecation_graph.specs.Kept.{marks_after}
use Rattle.deprecation_graph.proofs.check.keep_active.Given as goal

abbrev pub invariant-loop-node : goal.invariant-loop-node
invariant-loop-node l = l.ends.items ≡ filter (λ node. slice_index_or (marks_after l.active l.change) node false) (take l.node-index l.chain)
