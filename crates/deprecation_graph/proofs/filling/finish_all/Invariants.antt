use Rattle.std.proofs.Common.{◌≡◌, ◌<◌, ℕ, [], false}
use Rattle.deprecation_graph.specs.Filling.{is_new, mark_of, IsFilling}
use Rattle.deprecation_graph.proofs.filling.finish_all.Given as goal

abbrev pub invariant-loop-node : goal.invariant-loop-node
invariant-loop-node l = record {
  filling : IsFilling l.lists l.filling;
  idle : l.filling.waiting.items ≡ [];
  entered : (a : ℕ) → a < l.node → is_new (mark_of l.filling.marks.items a) ≡ false;
}
