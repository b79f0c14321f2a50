use Rattle.std.proofs.Common.{◌≡◌, List, map, subst, ap, ◌∙◌}
use Rattle.std.specs.Prelude.{IfOk}
use Rattle.cpe_rows.specs.cpe_name.Eleven.{Values}
use Rattle.fact_laws.specs.Shown.{names_at}
use Rattle.cpe_rows.specs.declared.entry.Entry.{Entry}
use Rattle.cpe_dictionary.specs.Sources.{AreSourcesOf}
use Rattle.name_registry.specs.Registered.{name_in}
use Rattle.name_registry.proofs.EndLemmas.{sources_in_order}
use Rattle.name_registry.proofs.registry.Registry.sources_of.Goals as goal

pub returns-clause-names : goal.returns-clause-names
returns-clause-names c =
    let r = c.args.self.now in
    let ks = c.numbers.result.now in
    let from = c.in_ok-sources.ensures in
    let es = ap (λ (s : List Entry × Values). s.0) from ∙ c.dictionary.ensures in
    let to = ap (λ (s : List Entry × Values). s.1) from ∙ c.name.ensures in
    let sources : AreSourcesOf r.entries (name_in r.table c.args.id) ks =
    subst (λ (xs : List Entry). AreSourcesOf xs (name_in r.table c.args.id) ks) es (subst (λ (n : Values). AreSourcesOf c.in_ok-sources.sources.0 n ks) to c.numbers.ensures) in
    subst (λ (ns : List Values). IfOk c.ids_at.result (λ v. names_at r.table v.items ≡ ns)) (ap (map (λ (e : Entry). e.name)) (sources_in_order r.entries (name_in r.table c.args.id) ks sources)) c.ids_at.ensures.names
