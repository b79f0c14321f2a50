use Rattle.std.proofs.Common.{◌≡◌, ◌+◌, ◌++◌, length, take, slice_set}
use Rattle.deprecation_graph.specs.Indexed.{list_of_node}
use Rattle.deprecation_graph.specs.Mirror.{IsMirror}
use Rattle.deprecation_graph.proofs.mirror.link_all.Given as goal

abbrev pub invariant-loop-to : goal.invariant-loop-to
invariant-loop-to l = record {
  next : l.next.lists ≡ slice_set l.initial.next.lists l.from (list_of_node l.initial.next.lists l.from ++ take l.to-index l.all);
  before : length l.before.lists ≡ length l.initial.before.lists;
  mirror : IsMirror l.next.lists l.before.lists;
  next_spare : l.next.spare + l.to-index ≡ l.initial.next.spare;
  before_spare : l.before.spare + l.to-index ≡ l.initial.before.spare;
  next_room : l.next.room ≡ l.initial.next.room;
  before_room : l.before.room ≡ l.initial.before.room;
}
