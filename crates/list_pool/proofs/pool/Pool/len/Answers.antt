use Rattle.std.proofs.Common.{length, sym, ap, ◌∙◌}
use Rattle.list_pool.specs.Pool.{rows_or_none}
use Rattle.list_pool.proofs.SlotWalks.{length-walk, live_head, list_at_head}
use Rattle.list_pool.proofs.pool.Pool.len.Goals as goal

pub head-head-requires : goal.head-head-requires
head-head-requires c = live_head c.self.inside.store.items.items c.args.list.0 (rw (← c.self.view_is) at c.requires)

pub returns : goal.returns
returns c =
    let s = c.self.inside.store.items.items in
    rw (← c.self.view_is) (sym (ap (λ o. length (rows_or_none o)) (list_at_head s c.args.list.0 c.head-head.result c.head-head.ensures) ∙ length-walk s c.head-head.result.first c.head-head.result.len))
