use Rattle.std.proofs.Common.{◌≡◌, ◌<◌, take}
use Rattle.std.specs.List.{sum_by}
use Rattle.deprecation_graph.specs.declared.limits.TheConstants.{MOST_ENDS}
use Rattle.deprecation_graph.specs.Groups.{member_count}
use Rattle.deprecation_graph.proofs.groups.have_few.Given as goal

abbrev pub invariant-loop-name : goal.invariant-loop-name
invariant-loop-name l = record {
  sum : l.total ≡ sum_by (member_count l.groups) (take l.name-index l.names);
  few : l.total < MOST_ENDS;
}
