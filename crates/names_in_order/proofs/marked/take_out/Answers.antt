use Rattle.std.proofs.Common.{None, arith, length-set}
use Rattle.names_in_order.proofs.MarkedLemmas.{no_more, one_less}
use Rattle.names_in_order.proofs.marked.take_out.Goals as goal

pub close_up_sparse-requires-clause-counted : goal.close_up_sparse-requires-clause-counted
close_up_sparse-requires-clause-counted c = omega (arith, one_less c.args.slots.now.items c.args.place c.requires.there, c.requires.marked.counted)

pub close_up_sparse-requires-clause-fewer : goal.close_up_sparse-requires-clause-fewer
close_up_sparse-requires-clause-fewer c = omega (arith, no_more c.args.slots.now.items, c.requires.marked.counted, length-set c.args.slots.now.items c.args.place None)
