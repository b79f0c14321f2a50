use Rattle.std.proofs.Common.{◌∙◌, take, take_all, get_or, sym, subst, arith}
use Rattle.std.proofs.lemmas.List.{take_more}
use Rattle.deprecation_graph.specs.Groups.{Joins}
use Rattle.deprecation_graph.proofs.GroupLemmas.{joined_grouped, joined_within, joins_more}
use Rattle.deprecation_graph.proofs.groups.join_all.Goals as goal

pub join-requires-clause-grouped : goal.join-requires-clause-grouped
join-requires-clause-grouped c = joined_grouped c.args.groups.now.items c.loop-other.groups.items c.args.node (take c.loop-other.other-index c.args.others.now) c.requires.grouped c.loop-other.invariant.joins

pub join-requires-clause-node : goal.join-requires-clause-node
join-requires-clause-node c = joined_within c.args.groups.now.items c.loop-other.groups.items c.args.node (take c.loop-other.other-index c.args.others.now) c.args.node c.requires.grouped c.loop-other.invariant.joins c.requires.node

pub join-requires-clause-other : goal.join-requires-clause-other
join-requires-clause-other c = joined_within c.args.groups.now.items c.loop-other.groups.items c.args.node (take c.loop-other.other-index c.args.others.now) (get_or c.args.others.now c.loop-other.other-index 0) c.requires.grouped c.loop-other.invariant.joins (c.requires.others c.loop-other.other-index 0 c.loop-other-test.true)

pub loop-other-preserved : goal.loop-other-preserved
loop-other-preserved c = record {
  joins = subst (Joins c.args.groups.now.items c.join.new.groups.items c.args.node) (sym (take_more c.args.others.now c.loop-other.other-index 0 c.loop-other-test.true))
      (joins_more c.args.groups.now.items c.loop-other.groups.items c.join.new.groups.items c.args.node (get_or c.args.others.now c.loop-other.other-index 0) (take c.loop-other.other-index c.args.others.now) c.loop-other.invariant.joins c.join.ensures.joins);
  capacity = c.join.ensures.capacity ∙ c.loop-other.invariant.capacity;
}

pub returns-clause-joins : goal.returns-clause-joins
returns-clause-joins c = subst (Joins c.args.groups.now.items c.loop-other.groups.items c.args.node) (take_all c.loop-other.other-index c.args.others.now (omega (arith, c.loop-other-test.false))) c.loop-other.invariant.joins
