use Rattle.std.proofs.Common.{◌≡◌, List, subst}
use Rattle.name_index.specs.cpe_name.Eleven.{Values}
use Rattle.names_in_order.specs.InOrder.{names_numbered}
use Rattle.names_in_order.specs.Places.{places_covered}
use Rattle.names_in_order.proofs.Places.{sorted_places}
use Rattle.names_in_order.proofs.growing.NamesInOrder.covered_places.Goals as goal

pub returns-clause-covered : goal.returns-clause-covered
returns-clause-covered g c =
    subst (λ (ns : List Values). c.sort_unstable.new.self.items ≡ places_covered c.args.name.now ns) c.self.view_is
    (sorted_places c.args.name.now (names_numbered c.self.inside.table.now c.self.inside.numbers.now.numbers) c.in_ok-places.places.items c.sort_unstable.new.self.items c.in_ok-places.ensures.covered c.sort_unstable.ensures.permutation c.sort_unstable.ensures.sorted)
