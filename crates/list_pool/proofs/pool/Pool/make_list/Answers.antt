use Rattle.std.proofs.Common.{arith}
use Rattle.list_pool.proofs.SlotCells.{make_pool, make_lists, fresh_name, live_few}
use Rattle.list_pool.proofs.pool.Pool.make_list.Goals as goal

pub invariant_of-self : goal.invariant_of-self
invariant_of-self c = make_pool c.self.inside.store c.take-at.new.self _ c.self.invariant c.take-at.ensures.store c.take-at.ensures.taken c.take-at.ensures.total

pub returns-clause-full : goal.returns-clause-full
returns-clause-full c =
    let spare = rw (← c.self.view_is) at c.requires in
    let few = live_few c.self.inside.store c.self.invariant spare in
    rw (← c.self.view_is) (λ e. absurd cc, λ e. absurd (omega arith))

pub returns-clause-fresh : goal.returns-clause-fresh
returns-clause-fresh c = rw (← c.self.view_is) (fresh_name c.self.inside.store.items.items c.take-at.new.self.items.items _ _ c.take-at.ensures.taken)

pub returns-clause-made : goal.returns-clause-made
returns-clause-made c = rw (← c.self.view_is) (make_lists c.self.inside.store.items.items c.take-at.new.self.items.items _ c.self.invariant.lists c.take-at.ensures.taken)
