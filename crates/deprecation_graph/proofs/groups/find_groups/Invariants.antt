use Rattle.std.proofs.Common.{ℕ, take}
use Rattle.std.specs.List.{Contains}
use Rattle.deprecation_graph.specs.Groups.{IsHead, AreGroupsOf}
use Rattle.deprecation_graph.proofs.groups.find_groups.Given as goal

abbrev pub invariant-loop-other : goal.invariant-loop-other
invariant-loop-other l = record {
  heads : (x : ℕ) → Contains l.names.items x → IsHead l.groups x;
  all : AreGroupsOf l.groups l.node (take l.other-index l.others) l.names.items;
}
