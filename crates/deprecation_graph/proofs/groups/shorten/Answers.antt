use Rattle.std.proofs.Common.{◌<◌, ◌∙◌, length, List, ap, sym, subst, arith}
use Rattle.std.proofs.lemmas.List.{length-set}
use Rattle.deprecation_graph.specs.Groups.{AreNodesGrouped, IsNext}
use Rattle.deprecation_graph.specs.declared.groups.GroupMember.{GroupMember}
use Rattle.deprecation_graph.specs.declared.groups.GroupMember.TheVariants.{Under}
use Rattle.deprecation_graph.proofs.GroupLemmas.{member_of, head_or_under, shortened, still_grouped}
use Rattle.deprecation_graph.proofs.groups.shorten.Goals as goal

pub next_of-further-requires-clause-grouped : goal.next_of-further-requires-clause-grouped
next_of-further-requires-clause-grouped c = subst AreNodesGrouped (sym c.deref.ensures.value) (still_grouped c.args.groups.now.items c.loop-lower.groups.items c.requires.grouped c.loop-lower.invariant.kept)

pub next_of-further-requires-clause-node : goal.next_of-further-requires-clause-node
next_of-further-requires-clause-node c =
    let down = member_of c.loop-lower.groups.items c.loop-lower.at c.index.result.now (Under c.in-Under.lower) c.loop-lower.invariant.within c.index.ensures c.in-Under.is in
    let now = still_grouped c.args.groups.now.items c.loop-lower.groups.items c.requires.grouped c.loop-lower.invariant.kept in
    omega (arith, c.loop-lower.invariant.within, (now.members.under c.loop-lower.at c.in-Under.lower down).0, ap length c.deref.ensures.value)

pub loop-lower-smaller : goal.loop-lower-smaller
loop-lower-smaller c =
    let down = member_of c.loop-lower.groups.items c.loop-lower.at c.index.result.now (Under c.in-Under.lower) c.loop-lower.invariant.within c.index.ensures c.in-Under.is in
    let now = still_grouped c.args.groups.now.items c.loop-lower.groups.items c.requires.grouped c.loop-lower.invariant.kept in
    omega (arith, (now.members.under c.loop-lower.at c.in-Under.lower down).0, c.next_of-further.ensures.falls)

pub loop-lower-preserved : goal.loop-lower-preserved
loop-lower-preserved c =
    let down = member_of c.loop-lower.groups.items c.loop-lower.at c.index.result.now (Under c.in-Under.lower) c.loop-lower.invariant.within c.index.ensures c.in-Under.is in
    let now = still_grouped c.args.groups.now.items c.loop-lower.groups.items c.requires.grouped c.loop-lower.invariant.kept in
    let step = subst (λ (ms : List GroupMember). IsNext ms c.in-Under.lower c.next_of-further.result) c.deref.ensures.value c.next_of-further.ensures in
    let old = c.loop-lower.invariant in
    let falls : c.next_of-further.result < c.loop-lower.at = omega (arith, (now.members.under c.loop-lower.at c.in-Under.lower down).0, step.falls) in
    record {
      within = omega (arith, falls, old.within, length-set c.loop-lower.groups.items c.loop-lower.at (Under c.next_of-further.result));
      one = λ marks group ok.
          let here = old.kept marks group ok in step.one marks group here ∙ (here.under c.loop-lower.at c.in-Under.lower down).1 ∙ old.one marks group ok;
      kept = λ marks group ok.
          shortened c.loop-lower.groups.items c.loop-lower.at c.in-Under.lower c.next_of-further.result down falls (λ m g o. step.one m g o ∙ (o.under c.loop-lower.at c.in-Under.lower down).1) marks group (old.kept marks group ok);
      capacity = old.capacity;
    }

pub returns-clause-head : goal.returns-clause-head
returns-clause-head c = head_or_under c.loop-lower.groups.items c.loop-lower.at c.index.result.now c.loop-lower.invariant.within (λ above e. c.in_default.not-Under above (c.index.ensures ∙ e))

pub returns-clause-name : goal.returns-clause-name
returns-clause-name c =
    let head = head_or_under c.loop-lower.groups.items c.loop-lower.at c.index.result.now c.loop-lower.invariant.within (λ above e. c.in_default.not-Under above (c.index.ensures ∙ e)) in
    λ marks group ok. sym ((c.loop-lower.invariant.kept marks group ok).head c.loop-lower.at head.0 head.1).0 ∙ c.loop-lower.invariant.one marks group ok
