use Rattle.std.proofs.Common.{◌≡◌, map, subst}
use Rattle.std.specs.Prelude.{IfOk}
use Rattle.cpe_rows.specs.Chains.{chain}
use Rattle.cpe_rows.specs.Lent.{entry_lent}
use Rattle.name_registry.specs.Registered.{Registered}
use Rattle.name_registry.proofs.registry.Registry.chain_lent.Goals as goal

pub returns : goal.returns
returns c = subst (λ (r : Registered). IfOk c.chain_lent.result (λ links. map entry_lent links.items ≡ chain r.entries c.args.name.now)) c.self.view_is c.chain_lent.ensures
