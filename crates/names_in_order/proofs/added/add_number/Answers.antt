use Rattle.std.proofs.Common.{List, sym, subst}
use Rattle.name_index.specs.declared.table.NameId.{NameId}
use Rattle.name_index.specs.Table.{kept_at}
use Rattle.names_in_order.specs.InOrder.{AreInOrder}
use Rattle.names_in_order.proofs.OrderLemmas.{not_held, held_more, live_more}
use Rattle.names_in_order.proofs.StayLemmas.{not_there}
use Rattle.names_in_order.proofs.added.add_number.Goals as goal

pub push-requires-clause-fresh : goal.push-requires-clause-fresh
push-requires-clause-fresh g c = not_there c.args.table.now (g.N.PushNumber.list c.args.numbers.now).numbers c.args.id c.requires.fresh

pub push-requires-clause-room : goal.push-requires-clause-room
push-requires-clause-room g c = record { reach = c.requires.room.reach; spare = c.requires.room.list }

pub add-requires-clause-fresh : goal.add-requires-clause-fresh
add-requires-clause-fresh g c =
    let numbers = (g.N.PushNumber.list c.args.numbers.now).numbers in
    not_held c.args.index.now.held numbers c.args.id c.requires.order.same (not_there c.args.table.now numbers c.args.id c.requires.fresh)

pub returns-clause-order : goal.returns-clause-order
returns-clause-order g c =
    let table = c.args.table.now in
    let id = c.args.id in
    let numbers = (g.N.PushNumber.list c.args.numbers.now).numbers in
    let product = (kept_at table id.0).product in
    let held = c.args.index.now.held in
    let more = c.add.new.self.held in
    subst (λ (xs : List NameId). AreInOrder table more xs) (sym c.push.ensures.numbers) (record {
      fits = c.fitting_laws.ensures.added table id.0 held more c.requires.live c.add.ensures.added c.requires.order.fits;
      same = held_more held more numbers id product c.requires.order.same c.add.ensures.added;
      live = live_more table numbers id c.requires.order.live c.requires.live;
    })
