use Rattle.std.proofs.Common.{refl, sym}
use Rattle.names_in_order.proofs.OrderLemmas.{name_nowhere}
use Rattle.names_in_order.proofs.growing.find_place.Goals as goal

pub returns-in-None : goal.returns-in-None
returns-in-None c = sym (name_nowhere c.args.table.now c.args.numbers.now.numbers c.args.name.now c.requires (c.in-None.ensures.none refl))
