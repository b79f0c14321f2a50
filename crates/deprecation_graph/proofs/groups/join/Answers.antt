use Rattle.std.proofs.Common.{◌≡◌, arith}
use Rattle.deprecation_graph.proofs.GroupLemmas.{still_grouped, still_head, still_within, same_name, lower_name, higher_name}
use Rattle.deprecation_graph.proofs.groups.join.Goals as goal

pub shorten-other_name-requires-clause-grouped : goal.shorten-other_name-requires-clause-grouped
shorten-other_name-requires-clause-grouped c = still_grouped c.args.groups.now.items c.shorten-name.new.groups.items c.requires.grouped c.shorten-name.ensures.kept

pub shorten-other_name-requires-clause-node : goal.shorten-other_name-requires-clause-node
shorten-other_name-requires-clause-node c = still_within c.args.groups.now.items c.shorten-name.new.groups.items c.args.other c.requires.grouped c.shorten-name.ensures.kept c.requires.other

pub put_under-requires-clause-grouped : goal.put_under-requires-clause-grouped
put_under-requires-clause-grouped c =
    let mid = still_grouped c.args.groups.now.items c.shorten-name.new.groups.items c.requires.grouped c.shorten-name.ensures.kept in
    still_grouped c.shorten-name.new.groups.items c.shorten-other_name.new.groups.items mid c.shorten-other_name.ensures.kept

pub put_under-requires-clause-gone : goal.put_under-requires-clause-gone
put_under-requires-clause-gone c =
    let mid = still_grouped c.args.groups.now.items c.shorten-name.new.groups.items c.requires.grouped c.shorten-name.ensures.kept in
    still_head c.shorten-name.new.groups.items c.shorten-other_name.new.groups.items c.shorten-name.result mid c.shorten-other_name.ensures.kept c.shorten-name.ensures.head

pub put_under-requires-then-name-other_name-clause-grouped : goal.put_under-requires-then-name-other_name-clause-grouped
put_under-requires-then-name-other_name-clause-grouped c =
    let mid = still_grouped c.args.groups.now.items c.shorten-name.new.groups.items c.requires.grouped c.shorten-name.ensures.kept in
    still_grouped c.shorten-name.new.groups.items c.shorten-other_name.new.groups.items mid c.shorten-other_name.ensures.kept

pub put_under-requires-then-name-other_name-clause-stays : goal.put_under-requires-then-name-other_name-clause-stays
put_under-requires-then-name-other_name-clause-stays c =
    let mid = still_grouped c.args.groups.now.items c.shorten-name.new.groups.items c.requires.grouped c.shorten-name.ensures.kept in
    still_head c.shorten-name.new.groups.items c.shorten-other_name.new.groups.items c.shorten-name.result mid c.shorten-other_name.ensures.kept c.shorten-name.ensures.head

pub returns-then-other_name-name-clause-joins : goal.returns-then-other_name-name-clause-joins
returns-then-other_name-name-clause-joins c = lower_name c.args.groups.now.items c.shorten-name.new.groups.items c.shorten-other_name.new.groups.items c.args.node c.args.other c.shorten-name.result c.shorten-other_name.result c.shorten-name.ensures.name c.shorten-name.ensures.kept c.shorten-other_name.ensures.name c.shorten-other_name.ensures.kept c.put_under.new.groups.items c.if-other_name-name.true c.put_under.ensures.puts

pub returns-then-name-other_name-clause-joins : goal.returns-then-name-other_name-clause-joins
returns-then-name-other_name-clause-joins c = higher_name c.args.groups.now.items c.shorten-name.new.groups.items c.shorten-other_name.new.groups.items c.args.node c.args.other c.shorten-name.result c.shorten-other_name.result c.shorten-name.ensures.name c.shorten-name.ensures.kept c.shorten-other_name.ensures.name c.shorten-other_name.ensures.kept c.put_under-then-name-other_name.new.groups.items c.if-name-other_name.true c.put_under-then-name-other_name.ensures.puts

pub returns-else-name-other_name-clause-joins : goal.returns-else-name-other_name-clause-joins
returns-else-name-other_name-clause-joins c =
    let same : c.shorten-other_name.result ≡ c.shorten-name.result = omega (arith, c.if-name-other_name.false, c.if-other_name-name.false) in
    same_name c.args.groups.now.items c.shorten-name.new.groups.items c.shorten-other_name.new.groups.items c.args.node c.args.other c.shorten-name.result c.shorten-other_name.result c.shorten-name.ensures.name c.shorten-name.ensures.kept c.shorten-other_name.ensures.name c.shorten-other_name.ensures.kept same
