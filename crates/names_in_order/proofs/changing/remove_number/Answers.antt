use Rattle.std.proofs.Common.{◌≢◌, List, ℕ, Some, slice_get, sym, subst}
use Rattle.name_index.specs.declared.table.NameId.{NameId}
use Rattle.name_index.specs.Table.{kept_at}
use Rattle.names_in_order.specs.InOrder.{AreInOrder}
use Rattle.names_in_order.proofs.ChangeLemmas.{held_present, not_left, removed_order, occurs_at}
use Rattle.names_in_order.proofs.changing.remove_number.Goals as goal

pub drop_name-requires-clause-held : goal.drop_name-requires-clause-held
drop_name-requires-clause-held c = held_present c.args.table.now c.args.index.now.held c.args.numbers.now.numbers c.args.id c.requires.order.fits c.requires.order.same c.requires.has

pub drop_name-requires-clause-live : goal.drop_name-requires-clause-live
drop_name-requires-clause-live c = let at = occurs_at c.args.numbers.now.numbers c.args.id c.requires.has in c.requires.order.live at.0 c.args.id at.1

pub returns-clause-order : goal.returns-clause-order
returns-clause-order c =
    let table = c.args.table.now in
    let id = c.args.id in
    let held = c.args.index.now.held in
    let fewer = c.drop_name.new.self.held in
    let product = (kept_at table id.0).product in
    subst (λ (xs : List NameId). AreInOrder table fewer xs) (sym c.remove.ensures)
    (removed_order table held fewer c.args.numbers.now.numbers id product c.requires.order c.requires.has (c.fitting_laws.ensures.dropped table id.0 product held fewer c.drop_name.ensures.dropped c.requires.order.fits) c.drop_name.ensures.dropped)

pub returns-clause-gone : goal.returns-clause-gone
returns-clause-gone c = subst (λ (xs : List NameId). (k : ℕ) → slice_get xs k ≢ Some c.args.id) (sym c.remove.ensures) (not_left c.args.numbers.now.numbers c.args.id c.lawful.ensures)
