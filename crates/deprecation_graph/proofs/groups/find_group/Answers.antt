use Rattle.std.proofs.Common.{◌∙◌, sym, arith}
use Rattle.deprecation_graph.specs.declared.groups.GroupMember.TheVariants.{Head, Under}
use Rattle.deprecation_graph.proofs.GroupLemmas.{member_at}
use Rattle.deprecation_graph.proofs.groups.find_group.Goals as goal

pub returns-in-Head-clause-name : goal.returns-in-Head-clause-name
returns-in-Head-clause-name c =
    let head = member_at c.args.groups.now c.loop.at (Head 0) (Head c.in-Head.field-0) c.loop.invariant.within c.in-Head.is in
    λ marks group ok. sym (ok.head c.loop.at c.in-Head.field-0 head).0 ∙ c.loop.invariant.one marks group ok

pub loop-preserved : goal.loop-preserved
loop-preserved c =
    let down = member_at c.args.groups.now c.loop.at (Head 0) (Under c.in-Under.lower) c.loop.invariant.within c.in-Under.is in
    record {
      within = omega (arith, c.loop.invariant.within, (c.requires.grouped.members.under c.loop.at c.in-Under.lower down).0);
      one = λ marks group ok. (ok.under c.loop.at c.in-Under.lower down).1 ∙ c.loop.invariant.one marks group ok;
    }
