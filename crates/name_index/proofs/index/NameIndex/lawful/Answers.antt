use Rattle.std.proofs.Common.{◌≤◌, subst}
use Rattle.name_index.specs.Index.{Held, times_held}
use Rattle.name_index.proofs.index.NameIndex.lawful.Goals as goal

pub returns : goal.returns
returns c id = subst (λ (h : Held). times_held h.held id ≤ 1) c.self.view_is (c.self.invariant.once id)
