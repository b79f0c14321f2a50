use Rattle.std.proofs.Common.{◌<◌, length}
use Rattle.deprecation_graph.specs.Groups.{AreOfOne}
use Rattle.deprecation_graph.proofs.groups.find_group.Given as goal

abbrev pub invariant-loop : goal.invariant-loop
invariant-loop l = record {
  within : l.at < length l.groups;
  one : AreOfOne l.groups l.at l.node;
}
