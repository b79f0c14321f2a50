use Rattle.std.proofs.Common.{subst}
use Rattle.std.specs.List.{filter}
use Rattle.name_index.specs.Listed.{product_value_at}
use Rattle.name_index.specs.Near.{covers_product}
use Rattle.name_index.specs.Table.{Names}
use Rattle.name_index.specs.Index.{WalksProducts}
use Rattle.name_index.proofs.Freed.{product_there}
use Rattle.name_index.proofs.WantedLemmas.{covered_walked}
use Rattle.name_index.proofs.table.NameTable.covered_products.Goals as goal

pub returns : goal.returns
returns c =
    let i = c.self.inside in
    let asked = c.args.asked.now in
    subst (λ (names : Names). WalksProducts names (covers_product asked) (filter (λ n. covers_product asked (product_value_at i.products n)) c.near.result)) c.self.view_is
    (record { products = i.products; of = product_there i.names.keys i.rows.items i.numbers.items i.products c.self.invariant.0; walks = covered_walked asked i.products c.near.result c.near.ensures })
