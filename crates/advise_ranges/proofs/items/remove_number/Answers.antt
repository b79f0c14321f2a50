use Rattle.std.proofs.Common.{List, inr, sym, subst, ap, ◌∙◌}
use Rattle.name_index.specs.declared.table.NameId.{NameId}
use Rattle.names_in_order.specs.InOrder.{AreInOrder, names_numbered}
use Rattle.names_in_order.proofs.ChangeLemmas.{occurs_at}
use Rattle.names_in_order.specs.Owned.{AreOwn}
use Rattle.names_in_order.proofs.OwnLemmas.{removed_own}
use Rattle.advise_ranges.proofs.items.remove_number.Goals as goal

pub release-requires : goal.release-requires
release-requires c = let at = occurs_at c.args.names.now.numbers c.args.id c.requires.has in c.requires.own.order.live at.0 c.args.id at.1

pub returns-clause-own : goal.returns-clause-own
returns-clause-own c =
    let old = c.args.table.now in
    let new = c.release.new.self in
    let names = c.args.names.now in
    let fewer = c.remove.new.self.held in
    let id = c.args.id in
    let order = c.orders_stay.ensures.released old new id.0 fewer c.remove.new.self.numbers c.release.ensures (inr c.remove.ensures.gone) c.remove.ensures.order in
    subst (λ (ns : List NameId). AreOwn new fewer ns) (sym c.remove.ensures.numbers)
    (removed_own old new names.held fewer names.numbers id c.requires.own c.requires.has c.release.ensures (subst (λ (ns : List NameId). AreInOrder new fewer ns) c.remove.ensures.numbers order))

pub returns-clause-names : goal.returns-clause-names
returns-clause-names c =
    let old = c.args.table.now in
    let new = c.release.new.self in
    let numbers = c.args.names.now.numbers in
    c.orders_stay.ensures.released_names old new c.args.id.0 c.remove.new.self.held c.remove.new.self.numbers c.release.ensures (inr c.remove.ensures.gone) c.remove.ensures.order
    ∙ ap (λ (ns : List NameId). names_numbered old ns) c.remove.ensures.numbers
    ∙ c.item_laws.ensures.dropped old numbers c.args.id c.lawful.ensures c.requires.own.order.live c.requires.has
