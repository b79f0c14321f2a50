use Rattle.std.proofs.Common.{None, sym, ap, ◌∙◌, arith, refl, length}
use Rattle.list_pool.specs.Pool.{Lists, Updates}
use Rattle.list_pool.specs.Store.{lists_of}
use Rattle.list_pool.specs.declared.store.PoolSlot.TheVariants.{Head}
use Rattle.list_pool.proofs.SlotWalks.{live_head}
use Rattle.list_pool.proofs.SlotCells.{head_fits}
use Rattle.list_pool.proofs.SlotRemoves.{prefix_step, empty_prefix, drop_pool, drop_lists, updates_after}
use Rattle.list_pool.proofs.pool.Pool.drop_list.Goals as goal

pub loop-cell-init : goal.loop-cell-init
loop-cell-init c = record { live = c.requires; others = λ o ne. refl; spare = refl }

pub first-requires : goal.first-requires
first-requires c = c.loop-cell.invariant.live

pub loop-cell-smaller : goal.loop-cell-smaller
loop-cell-smaller c =
    let q = prefix_step c.loop-cell.self.lists c.remove_value.new.self.lists c.args.list.0 c.in-Some.cell.0 c.value-value.result c.loop-cell.self.spare c.remove_value.new.self.spare c.remove_value.result (sym c.in-Some.ensures) c.value-value.ensures c.remove_value.ensures.found c.remove_value.ensures.removed c.remove_value.ensures.spare in
    omega (arith, q.2)

pub loop-cell-preserved : goal.loop-cell-preserved
loop-cell-preserved c =
    let q = prefix_step c.loop-cell.self.lists c.remove_value.new.self.lists c.args.list.0 c.in-Some.cell.0 c.value-value.result c.loop-cell.self.spare c.remove_value.new.self.spare c.remove_value.result (sym c.in-Some.ensures) c.value-value.ensures c.remove_value.ensures.found c.remove_value.ensures.removed c.remove_value.ensures.spare in
    record { live = q.0; others = λ o ne. q.1 o ne ∙ c.loop-cell.invariant.others o ne; spare = omega (arith, q.2, q.3, c.loop-cell.invariant.spare) }

pub give-requires-clause-at : goal.give-requires-clause-at
give-requires-clause-at c =
    let h = live_head c.self.inside.store.items.items c.args.list.0 (rw (← c.self.view_is) at c.loop-cell.invariant.live) in
    (Head h.0, h.1, tt)

pub give-requires-clause-few : goal.give-requires-clause-few
give-requires-clause-few c =
    let h = live_head c.self.inside.store.items.items c.args.list.0 (rw (← c.self.view_is) at c.loop-cell.invariant.live) in
    omega (arith, c.self.invariant.store.few, head_fits c.self.inside.store c.args.list.0 h.0 c.self.invariant h.1)

pub invariant_of-self : goal.invariant_of-self
invariant_of-self c =
    let h = live_head c.self.inside.store.items.items c.args.list.0 (rw (← c.self.view_is) at c.loop-cell.invariant.live) in
    let z = empty_prefix c.loop-cell.self.lists c.args.list.0 (sym c.in_default.ensures) in
    drop_pool c.self.inside.store c.give.new.self c.args.list.0 _ h.0 c.self.invariant c.give.ensures.store h.1 (rw (← c.self.view_is) at z) c.give.ensures.items c.give.ensures.free_len

pub returns-clause-dropped : goal.returns-clause-dropped
returns-clause-dropped c =
    let h = live_head c.self.inside.store.items.items c.args.list.0 (rw (← c.self.view_is) at c.loop-cell.invariant.live) in
    let u : Updates c.loop-cell.self.lists (lists_of c.give.new.self.items.items) c.args.list.0 None = rw (← c.self.view_is) (drop_lists c.self.inside.store.items.items c.give.new.self.items.items c.args.list.0 _ h.0 c.self.invariant.lists h.1 c.give.ensures.items) in
    updates_after c.args.self.now.lists c.loop-cell.self.lists _ c.args.list.0 None c.loop-cell.invariant.others u

pub returns-clause-spare : goal.returns-clause-spare
returns-clause-spare c =
    let z = ap length (empty_prefix c.loop-cell.self.lists c.args.list.0 (sym c.in_default.ensures)) in
    let v = ap (λ (p : Lists). p.spare) c.self.view_is in
    omega (arith, c.loop-cell.invariant.spare, z, v, c.give.ensures.free_len, c.give.ensures.room)
