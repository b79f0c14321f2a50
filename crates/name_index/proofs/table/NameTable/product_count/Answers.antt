use Rattle.std.proofs.Common.{◌<◌, ℕ, sym, subst}
use Rattle.name_index.proofs.Freed.{product_there}
use Rattle.name_index.proofs.Live.{known}
use Rattle.name_index.proofs.table.NameTable.product_count.Goals as goal

pub returns : goal.returns
returns c id k h =
    let i = c.self.inside in
    subst (λ (n : ℕ). k.product < n) (sym c.len.ensures)
    (known i.products k.product _ (product_there i.names.keys i.rows.items i.numbers.items i.products c.self.invariant.0 id k (rw (← c.self.view_is) at h)))
