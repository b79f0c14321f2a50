use Rattle.std.proofs.Common.{List, filter, sym, ap, ◌∙◌}
use Rattle.std.specs.List.{list_any}
use Rattle.std.proofs.lemmas.Result.{IfOk-weaker}
use Rattle.cpe_rows.specs.cpe_name.Eleven.{Values}
use Rattle.cpe_rows.specs.Names.{is_same}
use Rattle.name_index.specs.declared.table.NameId.{NameId}
use Rattle.fact_laws.specs.Shown.{names_at}
use Rattle.name_registry.specs.Registered.{name_in}
use Rattle.name_registry.proofs.ItemLemmas.{led_to_entry, led_to_other}
use Rattle.name_registry.proofs.registry.Registry.items_to.Goals as goal

pub returns-in_ok-sources-in-Some-clause-names : goal.returns-in_ok-sources-in-Some-clause-names
returns-in_ok-sources-in-Some-clause-names c =
    let r = c.args.self.now in
    let items = filter (λ (s : Values). list_any (is_same s) r.items) in
    let sources = ap (names_at r.table) c.deref.ensures.value ∙ c.in_ok-sources-in-Some.ensures.names in
    IfOk-weaker c.items_among.result _ _ (λ v is. is ∙ ap items sources ∙ sym (led_to_entry r.entries r.items (name_in r.table c.args.id) c.in-Some.number (sym c.in-Some.ensures))) c.items_among.ensures.names

pub returns-in-None-clause-names : goal.returns-in-None-clause-names
returns-in-None-clause-names c =
    let r = c.args.self.now in
    let items = filter (λ (s : Values). list_any (is_same s) r.items) in
    IfOk-weaker c.items_among-in-None.result _ _
    (λ v is. is ∙ ap (λ (ids : List NameId). items (names_at r.table ids)) c.from_ref.ensures.value ∙ sym (led_to_other r.entries r.items (name_in r.table c.args.id) (sym c.in-None.ensures)))
    c.items_among-in-None.ensures.names
