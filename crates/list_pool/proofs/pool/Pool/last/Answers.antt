use Rattle.std.proofs.Common.{sym}
use Rattle.list_pool.proofs.SlotWalks.{live_head}
use Rattle.list_pool.proofs.SlotWrites.{last_is, no_last}
use Rattle.list_pool.proofs.pool.Pool.last.Goals as goal

pub head-head-requires : goal.head-head-requires
head-head-requires c = live_head c.self.inside.store.items.items c.args.list.0 (rw (← c.self.view_is) at c.requires)

pub returns-else-head-eq0 : goal.returns-else-head-eq0
returns-else-head-eq0 c =
    rw (← c.self.view_is) (sym (last_is c.self.inside.store.items.items c.args.list.0 c.head-head.result c.head-head.ensures (c.self.invariant.lists c.args.list.0 c.head-head.result c.head-head.ensures) c.if-head-eq0.false))

pub returns-then-head-eq0 : goal.returns-then-head-eq0
returns-then-head-eq0 c =
    rw (← c.self.view_is) (sym (no_last c.self.inside.store.items.items c.args.list.0 c.head-head.result c.head-head.ensures c.if-head-eq0.true))
