use Rattle.std.proofs.Common.{ap, slice_get, ◌∙◌}
use Rattle.name_registry.specs.Registered.{Registered}
use Rattle.name_registry.proofs.registry.Registry.entry_at.Goals as goal

pub returns : goal.returns
returns c = c.entry_at.ensures ∙ ap (λ (r : Registered). slice_get r.entries c.args.k) c.self.view_is
