use Rattle.list_pool.proofs.SlotWrites.{on_list}
use Rattle.list_pool.proofs.pool.Pool.holds.Goals as goal

pub returns : goal.returns
returns c = rw (← c.self.view_is) (on_list c.self.inside.store c.args.list.0 c.args.cell.0 c.has_cell.result c.self.invariant c.has_cell.ensures)
