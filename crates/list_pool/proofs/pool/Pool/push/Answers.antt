use Rattle.std.proofs.Common.{◌≡◌, ◌+◌, slice_get, set, length, subst, sym, ap, ◌∙◌, arith, List, length-set}
use Rattle.list_pool.specs.declared.store.PoolSlot.{PoolSlot}
use Rattle.list_pool.specs.declared.store.PoolSlot.TheVariants.{Head}
use Rattle.list_pool.proofs.SlotWalks.{length-walk, live_head, cell_of}
use Rattle.list_pool.proofs.SlotCells.{last_cell, kept_by_take, PushesIn, push_first, push_more, push_lists, fresh_cell, push_pool, head_fits, set_keeps_head}
use Rattle.list_pool.proofs.pool.Pool.push.Goals as goal

pub head-head-requires : goal.head-head-requires
head-head-requires c = live_head c.self.inside.store.items.items c.args.list.0 (rw (← c.self.view_is) at c.requires.live)

pub put-requires-clause-at : goal.put-requires-clause-at
put-requires-clause-at c =
    (Head c.head-head.result, kept_by_take c.self.inside.store.items.items c.take-at.new.self.items.items _ c.args.list.0 _ (Head c.head-head.result) c.take-at.ensures.taken tt c.head-head.ensures, tt)

pub invariant_of-self : goal.invariant_of-self
invariant_of-self c =
    let s = c.self.inside.store.items.items in
    let p = push_first s c.take-at.new.self.items.items c.args.list.0 c.take-at.result c.args.value c.head-head.result c.head-head.ensures c.if-head-eq0.true c.take-at.ensures.taken in
    let q = subst (λ (xs : List PoolSlot). PushesIn s xs c.args.list.0 c.take-at.result c.args.value c.head-head.result) (sym c.put.ensures.items) p in
    push_pool c.self.inside.store c.put.new.self c.args.list.0 c.take-at.result c.args.value c.head-head.result c.self.invariant c.put.ensures.store c.head-head.ensures q (omega (arith, ap length c.put.ensures.items, length-set {A = PoolSlot} c.take-at.new.self.items.items c.args.list.0 (Head (record { first = c.take-at.result; last = c.take-at.result; len = 1 })), c.put.ensures.free_len, c.take-at.ensures.total))

pub cell-last-requires : goal.cell-last-requires
cell-last-requires c =
    let s = c.self.inside.store.items.items in
    let h = c.head-head.result in
    let is = c.self.invariant.lists c.args.list.0 h c.head-head.ensures in
    let lc = last_cell s c.args.list.0 h.first h.last _ is.linked is.ends (omega (arith, length-walk s h.first h.len)) in
    (_, kept_by_take s c.take-at.new.self.items.items _ h.last _ (cell_of c.args.list.0 lc.0 4294967295) c.take-at.ensures.taken tt lc.1)

pub overflow_add-longer : goal.overflow_add-longer
overflow_add-longer c = omega (arith, head_fits c.self.inside.store c.args.list.0 c.head-head.result c.self.invariant c.head-head.ensures, c.self.invariant.store.few)

pub put-requires-else-head-eq0-2-clause-at : goal.put-requires-else-head-eq0-2-clause-at
put-requires-else-head-eq0-2-clause-at c =
    let t = c.take-at.new.self.items.items in
    let tl = kept_by_take c.self.inside.store.items.items t _ c.args.list.0 _ (Head c.head-head.result) c.take-at.ensures.taken tt c.head-head.ensures in
    (Head c.head-head.result, ap (λ (xs : List PoolSlot). slice_get xs c.args.list.0) c.put-else-head-eq0.ensures.items ∙ set_keeps_head t c.args.list.0 c.head-head.result.last c.head-head.result c.cell-last.result _ tl c.cell-last.ensures, tt)

pub invariant_of-self-else-head-eq0 : goal.invariant_of-self-else-head-eq0
invariant_of-self-else-head-eq0 c =
    let s = c.self.inside.store.items.items in
    let t = c.take-at.new.self.items.items in
    let p = push_more s t c.args.list.0 c.take-at.result c.args.value c.head-head.result c.cell-last.result (omega (arith, c.self.invariant.store.few)) c.self.invariant.lists c.head-head.ensures c.if-head-eq0.false c.take-at.ensures.taken c.cell-last.ensures in
    let e : c.put-else-head-eq0-2.new.self.items.items ≡ set (set t c.head-head.result.last (cell_of c.cell-last.result.list c.cell-last.result.value c.take-at.result)) c.args.list.0 (Head (record { first = c.head-head.result.first; last = c.take-at.result; len = c.head-head.result.len + 1 })) = c.put-else-head-eq0-2.ensures.items ∙ ap (λ (xs : List PoolSlot). set xs c.args.list.0 (Head (record { first = c.head-head.result.first; last = c.take-at.result; len = c.head-head.result.len + 1 }))) c.put-else-head-eq0.ensures.items in
    let q = subst (λ (xs : List PoolSlot). PushesIn s xs c.args.list.0 c.take-at.result c.args.value c.head-head.result) (sym e) p in
    push_pool c.self.inside.store c.put-else-head-eq0-2.new.self c.args.list.0 c.take-at.result c.args.value c.head-head.result c.self.invariant c.put-else-head-eq0-2.ensures.store c.head-head.ensures q
    (omega (arith, ap length e, length-set {A = PoolSlot} t c.head-head.result.last (cell_of c.cell-last.result.list c.cell-last.result.value c.take-at.result), length-set {A = PoolSlot} (set t c.head-head.result.last (cell_of c.cell-last.result.list c.cell-last.result.value c.take-at.result)) c.args.list.0 (Head (record { first = c.head-head.result.first; last = c.take-at.result; len = c.head-head.result.len + 1 })), c.put-else-head-eq0.ensures.free_len, c.put-else-head-eq0-2.ensures.free_len, c.take-at.ensures.total))

pub returns-then-head-eq0-clause-pushed : goal.returns-then-head-eq0-clause-pushed
returns-then-head-eq0-clause-pushed c =
    let s = c.self.inside.store.items.items in
    let p = push_first s c.take-at.new.self.items.items c.args.list.0 c.take-at.result c.args.value c.head-head.result c.head-head.ensures c.if-head-eq0.true c.take-at.ensures.taken in
    let q = subst (λ (xs : List PoolSlot). PushesIn s xs c.args.list.0 c.take-at.result c.args.value c.head-head.result) (sym c.put.ensures.items) p in
    rw (← c.self.view_is) (c.take-at.result, fresh_cell s c.take-at.new.self.items.items c.take-at.result _ (omega (arith, c.self.invariant.store.few)) c.self.invariant.lists c.take-at.ensures.taken, push_lists s c.put.new.self.items.items c.args.list.0 c.take-at.result c.args.value c.head-head.result c.self.invariant.lists c.head-head.ensures q)

pub returns-else-head-eq0-clause-pushed : goal.returns-else-head-eq0-clause-pushed
returns-else-head-eq0-clause-pushed c =
    let s = c.self.inside.store.items.items in
    let t = c.take-at.new.self.items.items in
    let p = push_more s t c.args.list.0 c.take-at.result c.args.value c.head-head.result c.cell-last.result (omega (arith, c.self.invariant.store.few)) c.self.invariant.lists c.head-head.ensures c.if-head-eq0.false c.take-at.ensures.taken c.cell-last.ensures in
    let e : c.put-else-head-eq0-2.new.self.items.items ≡ set (set t c.head-head.result.last (cell_of c.cell-last.result.list c.cell-last.result.value c.take-at.result)) c.args.list.0 (Head (record { first = c.head-head.result.first; last = c.take-at.result; len = c.head-head.result.len + 1 })) = c.put-else-head-eq0-2.ensures.items ∙ ap (λ (xs : List PoolSlot). set xs c.args.list.0 (Head (record { first = c.head-head.result.first; last = c.take-at.result; len = c.head-head.result.len + 1 }))) c.put-else-head-eq0.ensures.items in
    let q = subst (λ (xs : List PoolSlot). PushesIn s xs c.args.list.0 c.take-at.result c.args.value c.head-head.result) (sym e) p in
    rw (← c.self.view_is) (c.take-at.result, fresh_cell s c.take-at.new.self.items.items c.take-at.result _ (omega (arith, c.self.invariant.store.few)) c.self.invariant.lists c.take-at.ensures.taken, push_lists s c.put-else-head-eq0-2.new.self.items.items c.args.list.0 c.take-at.result c.args.value c.head-head.result c.self.invariant.lists c.head-head.ensures q)
