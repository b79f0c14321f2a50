use Rattle.std.proofs.Common.{◌≡◌, ◌++◌, ◌∷◌, List, true, sym, ap, subst, ◌∙◌}
use Rattle.std.specs.List.{list_any}
use Rattle.cpe_rows.specs.cpe_name.Eleven.{Values}
use Rattle.name_index.specs.Table.{IsLive}
use Rattle.names_in_order.proofs.ChangeLemmas.{live_less, name_among}
use Rattle.names_in_order.specs.InOrder.{AreListedNames as AreLiveAt, names_numbered, same_id}
use Rattle.fact_laws.specs.Shown.{holds_in, Shows}
use Rattle.cpe_rows.specs.After.{without_first}
use Rattle.cpe_rows.specs.Names.{is_same}
use Rattle.cpe_dictionary.specs.Kept.{entries_in, names_of_entries}
use Rattle.name_registry.specs.Registered.{AreHeld, name_in, Registered}
use Rattle.name_registry.proofs.FitLemmas.{own_name}
use Rattle.name_registry.proofs.HeldLemmas.{dropped_first}
use Rattle.name_registry.proofs.registry.Registry.drop_item.Goals as goal
use Rattle.name_registry.proofs.registry.Registry.drop_item.Goals.{After-item_laws, After-remove}

-- the number is the number of an item
among : (c : After-item_laws) → list_any (same_id c.args.id) c.self.inside.items.numbers ≡ true
among c =
    let t = c.self.inside.table in
    let id = c.args.id in
    let n = name_in t id in
    let numbers = c.self.inside.items.numbers in
    let live = subst (λ (x : Registered). IsLive x.table id.0) (sym c.self.view_is) c.requires.live in
    let has = subst (λ (x : Registered). list_any (is_same (name_in x.table id)) x.items ≡ true) (sym c.self.view_is) c.requires.has in
    sym (name_among t numbers id n c.lawful.ensures c.self.invariant.items (own_name t id.0 live)) ∙ sym (c.item_laws.ensures.same n (names_numbered t numbers)) ∙ has

-- the items that are left
left : (c : After-remove) → list_any (same_id c.args.id) c.self.inside.items.numbers ≡ true
    → names_numbered c.self.inside.table c.remove.new.self.numbers ≡ without_first (is_same (name_in c.self.inside.table c.args.id)) (names_numbered c.self.inside.table c.self.inside.items.numbers)
left c has =
    let t = c.self.inside.table in
    ap (names_numbered t) c.remove.ensures ∙ c.item_laws.ensures.dropped t c.self.inside.items.numbers c.args.id c.lawful.ensures c.self.invariant.items has

pub invariant_of-self : goal.invariant_of-self
invariant_of-self c =
    let i = c.self.inside in
    record { entries = c.self.invariant.entries; items = subst (AreLiveAt i.table) (sym c.remove.ensures) (live_less i.table i.items.numbers c.args.id c.self.invariant.items) }

pub returns-clause-items : goal.returns-clause-items
returns-clause-items c =
    let at = goal.at.returns-clause-items c in
    left at.After-remove (among at.After-item_laws) ∙ ap (λ (x : Registered). without_first (is_same (name_in x.table c.args.id)) x.items) c.self.view_is

pub returns-clause-others : goal.returns-clause-others
returns-clause-others c others held =
    let at = goal.at.returns-clause-others c in
    let t = c.self.inside.table in
    let id = c.args.id in
    let n = name_in t id in
    let items = names_numbered t c.self.inside.items.numbers in
    let has = subst (λ (x : Registered). list_any (is_same (name_in x.table id)) x.items ≡ true) (sym c.self.view_is) c.requires.has in
    let es = names_of_entries (entries_in t c.self.inside.dictionary) in
    let shows = subst (λ (x : Registered). AreHeld x others) (sym c.self.view_is) held in
    let first = c.lists_are_shown.ensures.order t (holds_in t) (others ++ (es ++ items)) (n ∷ (others ++ (es ++ without_first (is_same n) items))) (dropped_first n others es items has) shows in
    subst (λ (x : Registered). Shows t (holds_in t) (name_in x.table id ∷ (others ++ (es ++ names_numbered t c.remove.new.self.numbers)))) c.self.view_is
    (subst (λ (ns : List Values). Shows t (holds_in t) (n ∷ (others ++ (es ++ ns)))) (sym (left at.After-remove (among at.After-item_laws))) first)
