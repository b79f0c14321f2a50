use Rattle.name_index.specs.Near.{near_on}
use Rattle.name_index.proofs.index.NameIndex.near.Goals as goal

pub returns : goal.returns
returns c = c.walk.ensures c.args.table.now (near_on c.args.side c.args.name.now.product) c.requires.fits (rw c.product_of.ensures at c.near_products.ensures)
