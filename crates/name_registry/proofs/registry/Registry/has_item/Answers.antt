use Rattle.std.proofs.Common.{sym, ap, subst, ◌∙◌}
use Rattle.std.specs.List.{list_any}
use Rattle.name_index.specs.Table.{IsLive}
use Rattle.names_in_order.proofs.ChangeLemmas.{name_among}
use Rattle.names_in_order.specs.InOrder.{names_numbered}
use Rattle.cpe_rows.specs.Names.{is_same}
use Rattle.name_registry.specs.Registered.{name_in, Registered}
use Rattle.name_registry.proofs.FitLemmas.{own_name}
use Rattle.name_registry.proofs.registry.Registry.has_item.Goals as goal

pub returns : goal.returns
returns c =
    let i = c.self.inside in
    let id = c.args.id in
    let n = name_in i.table id in
    let live = subst (λ (r : Registered). IsLive r.table id.0) (sym c.self.view_is) c.requires in
    c.has.ensures
    ∙ sym (name_among i.table i.items.numbers id n c.lawful.ensures c.self.invariant.items (own_name i.table id.0 live))
    ∙ sym (c.item_laws.ensures.same n (names_numbered i.table i.items.numbers))
    ∙ ap (λ (r : Registered). list_any (is_same (name_in r.table id)) r.items) c.self.view_is
