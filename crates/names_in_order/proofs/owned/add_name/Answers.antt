use Rattle.std.proofs.Common.{◌≡◌, ◌++◌, ◌∷◌, [], ◌∙◌}
use Rattle.std.proofs.lemmas.Result.{on_err_weaker, on_ok_weaker}
use Rattle.name_index.specs.Table.{kept_at}
use Rattle.names_in_order.specs.InOrder.{names_numbered}
use Rattle.names_in_order.proofs.OwnLemmas.{held_new, name_free, new_name}
use Rattle.names_in_order.proofs.owned.add_name.Goals as goal

pub hold_moved-requires-clause-few : goal.hold_moved-requires-clause-few
hold_moved-requires-clause-few g c id has =
    let names = g.N.PushHeld.roll c.args.names.now in
    absurd (name_free c.args.table.now names.held names.numbers c.args.name c.requires.own c.requires.fresh id has)

pub push_new_number-requires : goal.push_new_number-requires
push_new_number-requires g c =
    let old = c.args.table.now in
    let mid = c.hold_moved.new.self in
    let names = g.N.PushHeld.roll c.args.names.now in
    let name = c.args.name in
    let id = c.in_ok-id.id in
    let held = c.in_ok-id.ensures.held in
    let none = c.fitting_laws.ensures.number old mid id.0 name held (name_free old names.held names.numbers name c.requires.own c.requires.fresh) in
    record {
      own = held_new old mid names.held names.numbers id name c.requires.own held none
          (c.orders_stay.ensures.held old mid id.0 name names.held names.numbers held c.requires.own.order)
          (c.orders_stay.ensures.held_names old mid id.0 name names.held names.numbers held c.requires.own.order)
          c.requires.fresh;
    }

pub returns-clause-ok : goal.returns-clause-ok
returns-clause-ok g c =
    let old = c.args.table.now in
    let mid = c.hold_moved.new.self in
    let names = g.N.PushHeld.roll c.args.names.now in
    let name = c.args.name in
    let id = c.in_ok-id.id in
    let held = c.in_ok-id.ensures.held in
    let none = c.fitting_laws.ensures.number old mid id.0 name held (name_free old names.held names.numbers name c.requires.own c.requires.fresh) in
    let is : (kept_at mid id.0).name ≡ name = new_name old mid id name held none in
    let same : names_numbered mid names.numbers ≡ names_numbered old names.numbers = c.orders_stay.ensures.held_names old mid id.0 name names.held names.numbers held c.requires.own.order in
    on_ok_weaker c.push_new_number.result (λ e. e ∙ (λ i. same i ++ is i ∷ [])) c.push_new_number.ensures.ok

pub returns-clause-err : goal.returns-clause-err
returns-clause-err g c =
    let names = g.N.PushHeld.roll c.args.names.now in
    let same = c.orders_stay.ensures.held_names c.args.table.now c.hold_moved.new.self c.in_ok-id.id.0 c.args.name names.held names.numbers c.in_ok-id.ensures.held c.requires.own.order in
    on_err_weaker c.push_new_number.result (λ e. e ∙ same) c.push_new_number.ensures.err
