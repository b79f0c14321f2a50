use Rattle.std.proofs.Common.{ap, sym, subst, ◌∙◌}
use Rattle.names_in_order.specs.InOrder.{AreListedNames as AreLiveAt, names_numbered}
use Rattle.name_registry.specs.Registered.{Registered}
use Rattle.name_registry.proofs.registry.Registry.reserve_item.Goals as goal

pub invariant_of-self : goal.invariant_of-self
invariant_of-self c = record { entries = c.self.invariant.entries; items = subst (AreLiveAt c.self.inside.table) (sym c.reserve.ensures.numbers) c.self.invariant.items }

pub returns-clause-same : goal.returns-clause-same
returns-clause-same c = record {
  table = ap (λ (x : Registered). x.table) c.self.view_is;
  entries = ap (λ (x : Registered). x.entries) c.self.view_is;
  items = ap (names_numbered c.self.inside.table) c.reserve.ensures.numbers ∙ ap (λ (x : Registered). x.items) c.self.view_is;
}
