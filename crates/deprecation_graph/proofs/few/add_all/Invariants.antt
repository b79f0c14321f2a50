use Rattle.std.proofs.Common.{take}
use Rattle.deprecation_graph.specs.Searches.{AddsNumber}
use Rattle.deprecation_graph.proofs.few.add_all.Given as goal

abbrev pub invariant-loop-node : goal.invariant-loop-node
invariant-loop-node l = AddsNumber l.initial.found.items l.found.items (take l.node-index l.nodes)
