use Rattle.std.proofs.Common.{◌++◌, ◌∷◌, List, sym, ap, subst, ◌∙◌}
use Rattle.cpe_rows.specs.cpe_name.Eleven.{Values}
use Rattle.name_index.specs.Table.{IsLive}
use Rattle.names_in_order.specs.InOrder.{names_numbered}
use Rattle.cpe_dictionary.specs.Kept.{entries_in, names_of_entries}
use Rattle.name_registry.specs.Registered.{AreHeld, name_in, Registered}
use Rattle.name_registry.proofs.FitLemmas.{Stays, live_released, names_released, own_name, safe_entries, safe_items, shows_still, stays_by}
use Rattle.name_registry.proofs.registry.Registry.release.Goals as goal
use Rattle.name_registry.proofs.registry.Registry.release.Goals.{After-release}

stays : (c : After-release) → Stays c.self.inside.table c.release.new.self c.self.inside.dictionary c.self.inside.items.numbers
stays c =
    let old = c.self.inside.table in
    let new = c.release.new.self in
    let s = c.self.inside.dictionary in
    let r = c.self.inside.items.numbers in
    let id = c.args.id in
    let law = c.orders_stay.ensures in
    let fit = c.self.invariant in
    let live = subst (λ (x : Registered). IsLive x.table id.0) (sym c.self.view_is) c.requires.live in
    let now = subst (λ (x : Registered). (others : List Values) × AreHeld x (name_in x.table id ∷ others)) (sym c.self.view_is) c.requires.held in
    let gone = c.release.ensures in
    let shows = c.tables_are_lists.ensures.released old new id.0 (name_in old id) (now.0 ++ (names_of_entries (entries_in old s) ++ names_numbered old r)) c.lawful.ensures (own_name old id.0 live) gone now.1 in
    let safe = safe_entries old new s r id.0 now.0 c.lawful.ensures live gone fit shows in
    let item_safe = safe_items old new s r id.0 now.0 c.lawful.ensures live gone fit shows in
    stays_by old new s r fit (law.released old new id.0 s.names.held s.names.numbers gone safe fit.entries.order) (law.released_names old new id.0 s.names.held s.names.numbers gone safe fit.entries.order)
    (live_released old new id.0 r gone item_safe fit.items) (names_released old new id.0 r gone item_safe fit.items)

pub invariant_of-self : goal.invariant_of-self
invariant_of-self c = (stays (goal.at.invariant_of-self c).After-release).fitting

pub returns-clause-entries : goal.returns-clause-entries
returns-clause-entries c = (stays (goal.at.returns-clause-entries c).After-release).entries ∙ ap (λ (x : Registered). x.entries) c.self.view_is

pub returns-clause-items : goal.returns-clause-items
returns-clause-items c = (stays (goal.at.returns-clause-items c).After-release).items ∙ ap (λ (x : Registered). x.items) c.self.view_is

pub returns-clause-others : goal.returns-clause-others
returns-clause-others c others held =
    let i = c.self.inside in
    let old = i.table in
    let new = c.release.new.self in
    let s = i.dictionary in
    let r = i.items.numbers in
    let id = c.args.id in
    let live = subst (λ (x : Registered). IsLive x.table id.0) (sym c.self.view_is) c.requires.live in
    let then = subst (λ (x : Registered). AreHeld x (name_in x.table id ∷ others)) (sym c.self.view_is) held in
    shows_still old new s r others (stays (goal.at.returns-clause-others c).After-release)
    (c.tables_are_lists.ensures.released old new id.0 (name_in old id) (others ++ (names_of_entries (entries_in old s) ++ names_numbered old r)) c.lawful.ensures (own_name old id.0 live) c.release.ensures then)
