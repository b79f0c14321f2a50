use Rattle.std.proofs.Common.{ap, ◌∙◌}
use Rattle.name_registry.specs.Registered.{Registered}
use Rattle.name_registry.proofs.registry.Registry.reserve_change.Goals as goal

pub returns-clause-same : goal.returns-clause-same
returns-clause-same c = record {
  table = ap (λ (x : Registered). x.table) c.self.view_is;
  entries = c.reserve_change.ensures.entries ∙ ap (λ (x : Registered). x.entries) c.self.view_is;
  items = ap (λ (x : Registered). x.items) c.self.view_is;
}
