use Rattle.std.proofs.Common.{arith}
use Rattle.deprecation_graph.specs.declared.groups.GroupMember.TheVariants.{Head, Under}
use Rattle.deprecation_graph.proofs.GroupLemmas.{member_at}
use Rattle.deprecation_graph.proofs.groups.next_of.Goals as goal

pub returns-in-Under : goal.returns-in-Under
returns-in-Under c =
    let down = member_at c.args.groups.now c.args.node (Head 0) (Under c.in-Under.lower) c.requires.node c.in-Under.is in
    record { falls = omega (arith, (c.requires.grouped.members.under c.args.node c.in-Under.lower down).0); one = λ marks group ok. (ok.under c.args.node c.in-Under.lower down).1 }
