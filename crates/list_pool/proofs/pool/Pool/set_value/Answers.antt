use Rattle.std.proofs.Common.{arith}
use Rattle.list_pool.specs.declared.store.PoolSlot.TheVariants.{Cell}
use Rattle.list_pool.proofs.SlotCells.{cell_lies, row_of}
use Rattle.list_pool.proofs.SlotWrites.{write_pool, write_lists}
use Rattle.list_pool.proofs.pool.Pool.set_value.Goals as goal

pub cell-row-requires : goal.cell-row-requires
cell-row-requires c =
    let q = rw (← c.self.view_is) at c.requires in
    let p = cell_lies c.self.inside.store.items.items c.args.cell.0 q.0 q.1 c.self.invariant.lists (omega (arith, c.self.invariant.store.few)) q.2 in
    (_, p.lies)

pub put-requires-clause-at : goal.put-requires-clause-at
put-requires-clause-at c = (Cell c.cell-row.result, c.cell-row.ensures, tt)

pub invariant_of-self : goal.invariant_of-self
invariant_of-self c =
    let q = rw (← c.self.view_is) at c.requires in
    write_pool c.self.inside.store c.put.new.self c.args.cell.0 q.0 q.1 c.args.value c.cell-row.result c.self.invariant c.put.ensures.store (row_of c.self.inside.store.items.items c.args.cell.0 q.0 q.1 q.2) c.cell-row.ensures c.put.ensures.items c.put.ensures.free_len

pub returns-clause-written : goal.returns-clause-written
returns-clause-written c = rw (← c.self.view_is) (write_lists c.self.inside.store.items.items c.put.new.self.items.items c.args.cell.0 c.args.value c.cell-row.result (omega (arith, c.self.invariant.store.few)) c.self.invariant.lists c.cell-row.ensures c.put.ensures.items)
