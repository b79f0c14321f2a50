use Rattle.std.proofs.Common.{List, subst}
use Rattle.std.specs.List.{IsDistinct}
use Rattle.name_index.specs.cpe_name.Eleven.{Values}
use Rattle.name_index.specs.cpe_name.Equal.{same_name}
use Rattle.names_in_order.proofs.OrderLemmas.{names_distinct}
use Rattle.names_in_order.proofs.growing.NamesInOrder.lawful.Goals as goal

pub returns : goal.returns
returns c = subst (λ (ns : List Values). IsDistinct same_name ns) c.self.view_is (names_distinct c.self.inside.table.now c.self.inside.numbers.now.numbers c.lawful.ensures c.self.invariant.live c.lawful-2.ensures)
