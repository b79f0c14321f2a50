use Rattle.std.proofs.Common.{◌≡◌, ◌++◌, ◌∷◌, [], List, false, sym, ap, subst, ◌∙◌}
use Rattle.std.specs.List.{list_any}
use Rattle.cpe_rows.specs.cpe_name.Eleven.{Values}
use Rattle.name_index.specs.Table.{IsLive}
use Rattle.names_in_order.specs.InOrder.{AreListedNames as AreLiveAt, names_numbered}
use Rattle.names_in_order.proofs.OrderLemmas.{live_more}
use Rattle.names_in_order.proofs.StayLemmas.{not_there}
use Rattle.fact_laws.specs.Shown.{holds_in, Shows}
use Rattle.cpe_rows.specs.Names.{is_same}
use Rattle.cpe_dictionary.specs.Kept.{entries_in, names_of_entries}
use Rattle.name_registry.specs.Registered.{AreHeld, HasItemRoom, name_in, Registered}
use Rattle.name_registry.proofs.HeldLemmas.{last_of_third}
use Rattle.name_registry.proofs.registry.Registry.add_item.Goals as goal

pub push-requires-clause-fresh : goal.push-requires-clause-fresh
push-requires-clause-fresh c =
    let i = c.self.inside in
    let absent = subst (λ (x : Registered). list_any (is_same (name_in x.table c.args.id)) x.items ≡ false) (sym c.self.view_is) c.requires.absent in
    not_there i.table i.items.numbers c.args.id (sym (c.item_laws.ensures.same (name_in i.table c.args.id) (names_numbered i.table i.items.numbers)) ∙ absent)

pub push-requires-clause-room : goal.push-requires-clause-room
push-requires-clause-room c = subst (λ (x : Registered). HasItemRoom x c.args.id) (sym c.self.view_is) c.requires.room

pub invariant_of-self : goal.invariant_of-self
invariant_of-self c =
    let i = c.self.inside in
    let here = subst (λ (x : Registered). IsLive x.table c.args.id.0) (sym c.self.view_is) c.requires.live in
    record { entries = c.self.invariant.entries; items = subst (AreLiveAt i.table) (sym c.push.ensures.numbers) (live_more i.table i.items.numbers c.args.id c.self.invariant.items here) }

pub returns : goal.returns
returns c =
    let i = c.self.inside in
    let es = entries_in i.table i.dictionary in
    let items = names_numbered i.table i.items.numbers in
    let id = c.args.id in
    let more = ap (names_numbered i.table) c.push.ensures.numbers ∙ c.orders_stay.ensures.more i.table i.items.numbers id in
    record {
      table = ap (λ (x : Registered). x.table) c.self.view_is;
      entries = ap (λ (x : Registered). x.entries) c.self.view_is;
      items = more ∙ ap (λ (x : Registered). x.items ++ name_in x.table id ∷ []) c.self.view_is;
      others = λ others held. let shows = subst (λ (x : Registered). AreHeld x (name_in x.table id ∷ others)) (sym c.self.view_is) held in
          let last = c.lists_are_shown.ensures.order i.table (holds_in i.table) (name_in i.table id ∷ (others ++ (names_of_entries es ++ items))) (others ++ (names_of_entries es ++ (items ++ name_in i.table id ∷ []))) (last_of_third (name_in i.table id) others (names_of_entries es) items) shows in
          subst (λ (ns : List Values). Shows i.table (holds_in i.table) (others ++ (names_of_entries es ++ ns))) (sym more) last;
    }
