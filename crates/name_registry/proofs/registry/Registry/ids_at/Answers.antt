use Rattle.std.proofs.Common.{◌≡◌, sym, ap, subst, ◌∙◌}
use Rattle.std.proofs.lemmas.Result.{IfOk-weaker}
use Rattle.fact_laws.specs.Shown.{names_at}
use Rattle.cpe_dictionary.specs.Kept.{entry_names_at as entry_names_at}
use Rattle.name_registry.specs.Registered.{AreRegistryNames, Registered}
use Rattle.name_registry.proofs.EndLemmas.{live_found, names_found}
use Rattle.name_registry.proofs.registry.Registry.ids_at.Goals as goal

pub returns-clause-live : goal.returns-clause-live
returns-clause-live c =
    let i = c.self.inside in
    let ks = c.args.numbers.now in
    IfOk-weaker c.ids_at.result _ _ (λ v is. subst (λ (r : Registered). AreRegistryNames r.table v.items) c.self.view_is (subst (AreRegistryNames i.table) (sym is) (live_found i.table i.dictionary.names.numbers ks c.self.invariant.entries.order.live))) c.ids_at.ensures

pub returns-clause-names : goal.returns-clause-names
returns-clause-names c =
    let i = c.self.inside in
    let ks = c.args.numbers.now in
    IfOk-weaker c.ids_at.result _ _ (λ v is. subst (λ (r : Registered). names_at r.table v.items ≡ entry_names_at r.entries ks) c.self.view_is (ap (names_at i.table) is ∙ names_found i.table i.dictionary ks c.self.invariant.entries)) c.ids_at.ensures
