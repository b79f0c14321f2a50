use Rattle.std.proofs.Common.{◌≡◌, Some, sym, ap, ◌∙◌, arith}
use Rattle.list_pool.specs.declared.store.PoolSlot.TheVariants.{Cell}
use Rattle.list_pool.proofs.SlotCells.{cell_lies, next_row}
use Rattle.list_pool.proofs.pool.Pool.next.Goals as goal

pub cell-row-requires : goal.cell-row-requires
cell-row-requires c =
    let q = rw (← c.self.view_is) at c.requires in
    let p = cell_lies c.self.inside.store.items.items c.args.cell.0 q.0 q.1 c.self.invariant.lists (omega arith) q.2 in
    (_, p.lies)

pub returns-then-row : goal.returns-then-row
returns-then-row c name k h =
    let q = rw (← c.self.view_is) at h in
    let p = cell_lies c.self.inside.store.items.items c.args.cell.0 name k c.self.invariant.lists (omega arith) q in
    let is : Some (Cell c.cell-row.result) ≡ Some (Cell (record { list = name; value = p.value; next = p.next })) = sym c.cell-row.ensures ∙ p.lies in
    rw (← c.self.view_is) (sym (p.last (next_row _ _ is ∙ c.if-row.true)))

pub returns-else-row : goal.returns-else-row
returns-else-row c name k h =
    let q = rw (← c.self.view_is) at h in
    let p = cell_lies c.self.inside.store.items.items c.args.cell.0 name k c.self.invariant.lists (omega arith) q in
    let is : Some (Cell c.cell-row.result) ≡ Some (Cell (record { list = name; value = p.value; next = p.next })) = sym c.cell-row.ensures ∙ p.lies in
    rw (← c.self.view_is) (ap Some (sym (next_row _ _ is)) ∙ sym (p.not_last (λ e. c.if-row.false (sym (next_row _ _ is) ∙ e))))
