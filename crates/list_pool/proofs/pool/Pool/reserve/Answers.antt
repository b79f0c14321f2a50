use Rattle.std.proofs.Common.{arith}
use Rattle.list_pool.proofs.SlotChanges.{IsPool-reserved}
use Rattle.list_pool.proofs.pool.Pool.reserve.Goals as goal

pub invariant_of-self : goal.invariant_of-self
invariant_of-self c =
    IsPool-reserved c.self.inside.store _ _ c.self.invariant c.reserve.ensures.items (omega (arith, c.self.invariant.store.few)) (omega (arith, c.self.invariant.store.fits))

pub invariant_of-self-2 : goal.invariant_of-self-2
invariant_of-self-2 c =
    let req = rw (← c.self.view_is) at c.requires in
    IsPool-reserved c.self.inside.store _ _ c.self.invariant c.reserve.ensures.items (omega (arith, c.self.invariant.total)) (omega (arith, c.in_ok-reserve.ensures.ok))
