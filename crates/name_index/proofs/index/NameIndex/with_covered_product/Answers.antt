use Rattle.name_index.specs.Near.{covers_product}
use Rattle.name_index.proofs.index.NameIndex.with_covered_product.Goals as goal

pub returns : goal.returns
returns c = c.walk.ensures c.args.table.now (covers_product c.args.name.now.product) c.requires.fits (rw c.product_of.ensures at c.covered_products.ensures)
