use Rattle.std.proofs.Common.{arith}
use Rattle.list_pool.proofs.SlotsApart.{cells_apart}
use Rattle.list_pool.proofs.pool.Pool.lawful.Goals as goal

pub returns-clause-apart : goal.returns-clause-apart
returns-clause-apart c = rw (← c.self.view_is) (cells_apart c.self.inside.store.items.items c.self.invariant.lists (omega (arith, c.self.invariant.store.few)))
