use Rattle.std.proofs.Common.{◌≡◌, ◌+◌, ◌<◌, length, slice_set}
use Rattle.std.specs.List.{All}
use Rattle.deprecation_graph.specs.Indexed.{list_of_node}
use Rattle.deprecation_graph.specs.Mirror.{IsMirror}
use Rattle.deprecation_graph.proofs.mirror.unlink_all.Given as goal

abbrev pub invariant-loop-to : goal.invariant-loop-to
invariant-loop-to l = record {
  next : l.next.lists ≡ slice_set l.initial.next.lists l.from (list_of_node l.next.lists l.from);
  before : length l.before.lists ≡ length l.initial.before.lists;
  closed : All (λ to. to < length l.initial.before.lists) (list_of_node l.next.lists l.from);
  mirror : IsMirror l.next.lists l.before.lists;
  next_spare : l.next.spare + length (list_of_node l.next.lists l.from) ≡ l.initial.next.spare + length (list_of_node l.initial.next.lists l.from);
  before_spare : l.before.spare + length (list_of_node l.next.lists l.from) ≡ l.initial.before.spare + length (list_of_node l.initial.next.lists l.from);
  next_room : l.next.room ≡ l.initial.next.room;
  before_room : l.before.room ≡ l.initial.before.room;
}

abbrev pub decreases-loop-to : goal.decreases-loop-to
decreases-loop-to l = length (list_of_node l.next.lists l.from)
