use Rattle.std.proofs.Common.{◌≡◌, Some, sym, ap, ◌∙◌, arith}
use Rattle.list_pool.specs.declared.store.PoolSlot.TheVariants.{Cell}
use Rattle.list_pool.proofs.SlotCells.{cell_lies, value_row}
use Rattle.list_pool.proofs.pool.Pool.value.Goals as goal

pub cell-row-requires : goal.cell-row-requires
cell-row-requires c =
    let q = rw (← c.self.view_is) at c.requires in
    let p = cell_lies c.self.inside.store.items.items c.args.cell.0 q.0 q.1 c.self.invariant.lists (omega arith) q.2 in
    (_, p.lies)

pub returns : goal.returns
returns c name k h =
    let q = rw (← c.self.view_is) at h in
    let p = cell_lies c.self.inside.store.items.items c.args.cell.0 name k c.self.invariant.lists (omega arith) q in
    let is : Some (Cell c.cell-row.result) ≡ Some (Cell (record { list = name; value = p.value; next = p.next })) = sym c.cell-row.ensures ∙ p.lies in
    rw (← c.self.view_is) (p.has_value ∙ ap Some (value_row _ _ is))
