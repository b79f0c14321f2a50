use Rattle.std.proofs.Common.{◌≡◌, ◌<◌, length, vec_capacity}
use Rattle.deprecation_graph.specs.Groups.{AreOfOne, KeepsGroups}
use Rattle.deprecation_graph.proofs.groups.shorten.Given as goal

abbrev pub invariant-loop-lower : goal.invariant-loop-lower
invariant-loop-lower l = record {
  within : l.at < length l.groups.items;
  one : AreOfOne l.initial.groups.items l.at l.node;
  kept : KeepsGroups l.initial.groups.items l.groups.items;
  capacity : vec_capacity l.groups ≡ vec_capacity l.initial.groups;
}

abbrev pub decreases-loop-lower : goal.decreases-loop-lower
decreases-loop-lower l = l.at
