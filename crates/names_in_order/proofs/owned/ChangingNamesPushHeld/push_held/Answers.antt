use Rattle.std.proofs.Common.{◌≡◌, ◌∙◌, ◌∷◌, ◌++◌, [], List, false, ap, subst, sym}
use Rattle.std.specs.List.{list_any}
use Rattle.name_index.specs.cpe_name.Equal.{same_name}
use Rattle.name_index.specs.declared.table.NameId.{NameId}
use Rattle.name_index.specs.Table.{kept_at}
use Rattle.names_in_order.specs.InOrder.{names_numbered}
use Rattle.names_in_order.proofs.RoomLemmas.{same_order}
use Rattle.names_in_order.proofs.owned.ChangingNamesPushHeld.push_held.Goals as goal

pub push-requires-clause-order : goal.push-requires-clause-order
push-requires-clause-order c = same_order c.args.table.now c.args.self.now c.reserve.new.self c.reserve.ensures.same c.requires.order

pub push-requires-clause-fresh : goal.push-requires-clause-fresh
push-requires-clause-fresh c =
    let table = c.args.table.now in
    subst (λ (ns : List NameId). list_any (same_name (kept_at table c.args.id.0).name) (names_numbered table ns) ≡ false) (sym c.reserve.ensures.same.numbers) c.requires.fresh

pub returns-clause-ok : goal.returns-clause-ok
returns-clause-ok c = c.push.ensures.numbers ∙ ap (λ (ns : List NameId). ns ++ c.args.id ∷ []) c.reserve.ensures.same.numbers

pub returns-in_err-reserve-clause-order : goal.returns-in_err-reserve-clause-order
returns-in_err-reserve-clause-order c = same_order c.args.table.now c.args.self.now c.reserve.new.self c.reserve.ensures.same c.requires.order
