use Rattle.std.proofs.Common.{sym, ◌∙◌}
use Rattle.names_in_order.proofs.OrderLemmas.{place_by_name}
use Rattle.names_in_order.proofs.growing.place_of.Goals as goal

pub returns : goal.returns
returns c = c.place_of.ensures ∙ sym (place_by_name c.args.table.now c.args.numbers.now.numbers c.lawful.ensures c.requires.all c.args.id c.requires.live)
