use Rattle.std.proofs.Common.{sym, ap, ◌∙◌}
use Rattle.std.proofs.lemmas.Result.{IfOk-weaker}
use Rattle.fact_laws.specs.Shown.{names_at}
use Rattle.name_registry.specs.Registered.{name_in}
use Rattle.name_registry.proofs.EndLemmas.{alone_ends, alone_live}
use Rattle.name_registry.proofs.registry.Registry.ends_of.Goals as goal

pub returns-in-None-clause-live : goal.returns-in-None-clause-live
returns-in-None-clause-live c = IfOk-weaker c.alone.result _ _ (λ v is. alone_live c.args.self.now.table c.args.id v.items c.requires is) c.alone.ensures

pub returns-in-None-clause-names : goal.returns-in-None-clause-names
returns-in-None-clause-names c =
    let r = c.args.self.now in
    IfOk-weaker c.alone.result _ _ (λ v is. ap (names_at r.table) is ∙ sym (alone_ends r.entries (name_in r.table c.args.id) (sym c.in-None.ensures))) c.alone.ensures
