use Rattle.std.proofs.Common.{sym, ap, ◌∙◌}
use Rattle.list_pool.specs.Pool.{rows_or_none, has_value}
use Rattle.list_pool.proofs.SlotWalks.{live_head, list_at_head}
use Rattle.list_pool.proofs.SlotRemoves.{remove_pool, remove_lists, found_has, not_found}
use Rattle.list_pool.proofs.pool.Pool.remove_value.Goals as goal

pub head-head-requires : goal.head-head-requires
head-head-requires c = live_head c.self.inside.store.items.items c.args.list.0 (rw (← c.self.view_is) at c.requires)

pub find-requires : goal.find-requires
find-requires c = c.self.invariant.lists c.args.list.0 c.head-head.result c.head-head.ensures

pub invariant_of-self : goal.invariant_of-self
invariant_of-self c =
    remove_pool c.self.inside.store c.unlink.new.self c.args.list.0 c.args.value c.head-head.result (c.in-Some.place.before, c.in-Some.place.at) c.self.invariant c.unlink.ensures.store c.unlink.ensures.rewrites c.head-head.ensures (sym c.in-Some.ensures) (c.unlink.ensures.list c.head-head.result c.head-head.ensures) c.unlink.ensures.cells c.unlink.ensures.len c.unlink.ensures.free_len

pub returns-in-Some-clause-found : goal.returns-in-Some-clause-found
returns-in-Some-clause-found c =
    let s = c.self.inside.store.items.items in
    rw (← c.self.view_is) (sym (ap (λ o. has_value c.args.value (rows_or_none o)) (list_at_head s c.args.list.0 c.head-head.result c.head-head.ensures) ∙ found_has c.args.value _ _ _ (sym c.in-Some.ensures)))

pub returns-in-Some-clause-removed : goal.returns-in-Some-clause-removed
returns-in-Some-clause-removed c =
    rw (← c.self.view_is) (remove_lists c.self.inside.store.items.items c.unlink.new.self.items.items c.args.list.0 c.args.value c.head-head.result c.self.invariant.lists c.unlink.ensures.rewrites c.head-head.ensures (c.unlink.ensures.list c.head-head.result c.head-head.ensures))

pub returns-in-None-clause-found : goal.returns-in-None-clause-found
returns-in-None-clause-found c =
    let s = c.self.inside.store.items.items in
    rw (← c.self.view_is) (sym (ap (λ o. has_value c.args.value (rows_or_none o)) (list_at_head s c.args.list.0 c.head-head.result c.head-head.ensures) ∙ not_found c.args.value _ _ (sym c.in-None.ensures)))
