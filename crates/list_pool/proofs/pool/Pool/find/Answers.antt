use Rattle.std.proofs.Common.{None, Some}
use Rattle.list_pool.proofs.SlotWalks.{live_head}
use Rattle.list_pool.proofs.SlotWrites.{find_is}
use Rattle.list_pool.proofs.pool.Pool.find.Goals as goal

pub head-head-requires : goal.head-head-requires
head-head-requires c = live_head c.self.inside.store.items.items c.args.list.0 (rw (← c.self.view_is) at c.requires)

pub find-requires : goal.find-requires
find-requires c = c.self.invariant.lists c.args.list.0 c.head-head.result c.head-head.ensures

pub returns-in-Some : goal.returns-in-Some
returns-in-Some c = rw (← c.self.view_is) (find_is c.self.inside.store.items.items c.args.list.0 c.args.value c.head-head.result (Some (c.in-Some.place.before, c.in-Some.place.at)) c.head-head.ensures c.in-Some.ensures)

pub returns-in-None : goal.returns-in-None
returns-in-None c = rw (← c.self.view_is) (find_is c.self.inside.store.items.items c.args.list.0 c.args.value c.head-head.result None c.head-head.ensures c.in-None.ensures)
