use Rattle.std.proofs.Common.{sym, ap, subst, ◌∙◌}
use Rattle.std.specs.List.{list_any}
use Rattle.cpe_rows.specs.cpe_name.Equal.{same_name}
use Rattle.name_index.specs.Table.{HasName}
use Rattle.names_in_order.proofs.ChangeLemmas.{name_nowhere}
use Rattle.names_in_order.specs.InOrder.{names_numbered}
use Rattle.cpe_rows.specs.Names.{is_same}
use Rattle.cpe_rows.specs.Rows.{is_named}
use Rattle.cpe_dictionary.specs.Kept.{entries_in, names_of_entries}
use Rattle.name_registry.specs.Registered.{Registered}
use Rattle.name_registry.proofs.FitLemmas.{any_named, names_stored}
use Rattle.name_registry.proofs.registry.Registry.find.Goals as goal

pub returns-clause-no_entry : goal.returns-clause-no_entry
returns-clause-no_entry c none =
    let i = c.self.inside in
    let n = c.args.name.now in
    let es = entries_in i.table i.dictionary in
    ap (λ (r : Registered). list_any (is_named n) r.entries) (sym c.self.view_is)
    ∙ any_named n es
    ∙ c.item_laws.ensures.same n (names_of_entries es)
    ∙ ap (list_any (same_name n)) (names_stored i.table i.dictionary c.self.invariant.entries)
    ∙ name_nowhere i.table i.dictionary.names.numbers n c.self.invariant.entries.order.live (c.find.ensures.none none)

pub returns-clause-no_item : goal.returns-clause-no_item
returns-clause-no_item c none =
    let i = c.self.inside in
    let n = c.args.name.now in
    ap (λ (r : Registered). list_any (is_same n) r.items) (sym c.self.view_is)
    ∙ c.item_laws.ensures.same n (names_numbered i.table i.items.numbers)
    ∙ name_nowhere i.table i.items.numbers n c.self.invariant.items (c.find.ensures.none none)

pub returns-clause-none : goal.returns-clause-none
returns-clause-none c none id has = c.find.ensures.none none id (subst (λ (r : Registered). HasName r.table id c.args.name.now) (sym c.self.view_is) has)
