use Rattle.std.proofs.Common.{◌≡◌, List, ap, subst, ◌∙◌}
use Rattle.std.specs.Prelude.{IfOk}
use Rattle.cpe_rows.specs.cpe_name.Eleven.{Values}
use Rattle.fact_laws.specs.Shown.{names_at}
use Rattle.cpe_rows.specs.Chains.{ends}
use Rattle.cpe_rows.specs.declared.entry.Entry.{Entry}
use Rattle.cpe_dictionary.specs.Kept.{entry_names_at as entry_names_at}
use Rattle.name_registry.proofs.registry.Registry.entry_ends.Goals as goal

pub returns-clause-names : goal.returns-clause-names
returns-clause-names c =
    let r = c.args.self.now in
    let found =
    subst (λ (es : List Entry). entry_names_at es c.in_ok-numbers.numbers.items ≡ ends es c.name.result.now) c.dictionary.ensures c.in_ok-numbers.ensures.names
    ∙ ap (ends r.entries) c.name.ensures in
    subst (λ (ns : List Values). IfOk c.ids_at.result (λ v. names_at r.table v.items ≡ ns)) (ap (entry_names_at r.entries) c.deref.ensures.value ∙ found) c.ids_at.ensures.names
