use Rattle.std.proofs.Common.{◌++◌, ◌∷◌, [], List, sym, ap, subst, ◌∙◌}
use Rattle.cpe_rows.specs.cpe_name.Eleven.{Values}
use Rattle.names_in_order.specs.InOrder.{names_numbered}
use Rattle.fact_laws.specs.Shown.{holds_in, Shows}
use Rattle.cpe_dictionary.specs.Kept.{entries_in, names_of_entries, new_entry}
use Rattle.name_registry.specs.Registered.{AreHeld, name_in, Registered}
use Rattle.name_registry.proofs.HeldLemmas.{last_of_second, names_more}
use Rattle.name_registry.proofs.registry.Registry.add_entry.Goals as goal

pub returns : goal.returns
returns c =
    let i = c.self.inside in
    let es = entries_in i.table i.dictionary in
    let items = names_numbered i.table i.items.numbers in
    let e = new_entry (name_in i.table c.args.id) c.args.title c.args.provenance in
    record {
      table = ap (λ (x : Registered). x.table) c.self.view_is;
      items = ap (λ (x : Registered). x.items) c.self.view_is;
      entries = c.add.ensures.entries ∙ ap (λ (x : Registered). x.entries ++ new_entry (name_in x.table c.args.id) c.args.title c.args.provenance ∷ []) c.self.view_is;
      others = λ others held. let shows = subst (λ (x : Registered). AreHeld x (name_in x.table c.args.id ∷ others)) (sym c.self.view_is) held in
          let more = c.lists_are_shown.ensures.order i.table (holds_in i.table) (name_in i.table c.args.id ∷ (others ++ (names_of_entries es ++ items))) (others ++ ((names_of_entries es ++ name_in i.table c.args.id ∷ []) ++ items)) (last_of_second (name_in i.table c.args.id) others (names_of_entries es) items) shows in
          subst (λ (ns : List Values). Shows i.table (holds_in i.table) (others ++ (ns ++ items))) (sym (ap names_of_entries c.add.ensures.entries ∙ names_more es e)) more;
    }
