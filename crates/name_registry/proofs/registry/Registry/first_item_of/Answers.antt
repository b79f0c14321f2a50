use Rattle.std.proofs.Common.{◌∙◌, Option, Some, find, sym, ap, subst}
use Rattle.std.specs.Prelude.{option_map}
use Rattle.std.specs.List.{list_any}
use Rattle.cpe_rows.specs.cpe_name.Eleven.{Values}
use Rattle.cpe_rows.specs.Names.{is_same}
use Rattle.name_index.specs.declared.table.NameId.{NameId}
use Rattle.names_in_order.specs.InOrder.{same_id}
use Rattle.fact_laws.specs.Shown.{names_at}
use Rattle.name_registry.specs.Registered.{AreRegistryNames, name_in, Registered}
use Rattle.name_registry.proofs.ItemLemmas.{first_numbered, found_live}
use Rattle.name_registry.proofs.registry.Registry.first_item_of.Goals as goal

pub name-requires : goal.name-requires
name-requires c =
    let i = c.self.inside in
    found_live i.table (λ (id : NameId). list_any (same_id id) c.args.ids.now) i.items.numbers c.in-Some.id c.self.invariant.items (sym c.first_of.ensures ∙ c.in-Some.is)

pub returns-in-Some : goal.returns-in-Some
returns-in-Some c =
    let i = c.self.inside in
    let ids = c.args.ids.now in
    let live = subst (λ (r : Registered). AreRegistryNames r.table ids) (sym c.self.view_is) c.requires in
    ap {B = Option Values} (λ (n : Values). Some n) c.name.ensures
    ∙ ap (option_map (name_in i.table)) (sym c.in-Some.is ∙ c.first_of.ensures)
    ∙ first_numbered i.table c.lawful.ensures ids live c.item_laws.ensures.same i.items.numbers c.self.invariant.items
    ∙ ap (λ (r : Registered). find (λ (n : Values). list_any (is_same n) (names_at r.table ids)) r.items) c.self.view_is

pub returns-in-None : goal.returns-in-None
returns-in-None c =
    let i = c.self.inside in
    let ids = c.args.ids.now in
    let live = subst (λ (r : Registered). AreRegistryNames r.table ids) (sym c.self.view_is) c.requires in
    ap (option_map (name_in i.table)) (sym c.in-None.is ∙ c.first_of.ensures)
    ∙ first_numbered i.table c.lawful.ensures ids live c.item_laws.ensures.same i.items.numbers c.self.invariant.items
    ∙ ap (λ (r : Registered). find (λ (n : Values). list_any (is_same n) (names_at r.table ids)) r.items) c.self.view_is
