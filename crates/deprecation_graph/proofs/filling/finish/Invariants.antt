use Rattle.std.proofs.Common.{◌≡◌, false}
use Rattle.deprecation_graph.specs.Filling.{is_new, mark_of, work, IsFilling, NoneIsNewer}
use Rattle.deprecation_graph.proofs.filling.finish.Given as goal

abbrev pub invariant-loop-last : goal.invariant-loop-last
invariant-loop-last l = record {
  filling : IsFilling l.lists l.filling;
  newer : NoneIsNewer l.fn.filling.marks.items l.filling.marks.items;
  entered : is_new (mark_of l.filling.marks.items l.node) ≡ false;
}

abbrev pub decreases-loop-last : goal.decreases-loop-last
decreases-loop-last l = work l.lists l.filling
