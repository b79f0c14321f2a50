use Rattle.std.proofs.Common.{sym}
use Rattle.list_pool.proofs.SlotWalks.{live_head}
use Rattle.list_pool.proofs.SlotCells.{first_cell, no_first_cell}
use Rattle.list_pool.proofs.pool.Pool.first.Goals as goal

pub head-head-requires : goal.head-head-requires
head-head-requires c = live_head c.self.inside.store.items.items c.args.list.0 (rw (← c.self.view_is) at c.requires)

pub returns-else-head-eq0 : goal.returns-else-head-eq0
returns-else-head-eq0 c =
    rw (← c.self.view_is) (sym (first_cell c.self.inside.store.items.items c.args.list.0 c.head-head.result c.head-head.ensures c.if-head-eq0.false))

pub returns-then-head-eq0 : goal.returns-then-head-eq0
returns-then-head-eq0 c =
    rw (← c.self.view_is) (sym (no_first_cell c.self.inside.store.items.items c.args.list.0 c.head-head.result c.head-head.ensures c.if-head-eq0.true))
