use Rattle.std.proofs.Common.{◌≡◌, take, vec_capacity}
use Rattle.deprecation_graph.specs.Groups.{Joins}
use Rattle.deprecation_graph.proofs.groups.join_all.Given as goal

abbrev pub invariant-loop-other : goal.invariant-loop-other
invariant-loop-other l = record {
  joins : Joins l.initial.groups.items l.groups.items l.node (take l.other-index l.others);
  capacity : vec_capacity l.groups ≡ vec_capacity l.initial.groups;
}
