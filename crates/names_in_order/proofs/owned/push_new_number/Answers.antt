use Rattle.std.proofs.Common.{List, inr, sym, subst, ap, ◌∙◌}
use Rattle.name_index.specs.declared.table.NameId.{NameId}
use Rattle.names_in_order.specs.InOrder.{AreInOrder, names_numbered}
use Rattle.names_in_order.specs.Owned.{AreOwn}
use Rattle.names_in_order.proofs.OwnLemmas.{discard_own, new_nowhere, pushed_own, same_own}
use Rattle.names_in_order.proofs.owned.push_new_number.Goals as goal

pub returns-in-Ok-clause-own : goal.returns-in-Ok-clause-own
returns-in-Ok-clause-own g c =
    let table = c.args.table.now in
    let names = g.N.PushHeld.roll c.args.names.now in
    let more = (g.N.PushHeld.roll c.push_held.new.self).held in
    subst (λ (ns : List NameId). AreOwn table more ns) (sym c.in-Ok.ensures.ok)
    (pushed_own table names.held more names.numbers c.args.id c.requires.own (subst (λ (ns : List NameId). AreInOrder table more ns) c.in-Ok.ensures.ok c.push_held.ensures.order))

pub returns-in-Ok-clause-ok : goal.returns-in-Ok-clause-ok
returns-in-Ok-clause-ok g c =
    let table = c.args.table.now in
    ap (λ (ns : List NameId). names_numbered table ns) c.in-Ok.ensures.ok ∙ c.orders_stay.ensures.more table (g.N.PushHeld.roll c.args.names.now).numbers c.args.id

pub returns-in-Err-clause-own : goal.returns-in-Err-clause-own
returns-in-Err-clause-own g c =
    let old = c.args.table.now in
    let new = c.release.new.self in
    let names = g.N.PushHeld.roll c.args.names.now in
    let id = c.args.id in
    let own = c.requires.own in
    same_own new names (g.N.PushHeld.roll c.push_held.new.self) c.in-Err.ensures.err
    (discard_own old new names.held names.held names.numbers id own c.release.ensures (c.orders_stay.ensures.released old new id.0 names.held names.numbers c.release.ensures (inr (new_nowhere old names.held names.numbers id own)) own.order))

pub returns-in-Err-clause-err : goal.returns-in-Err-clause-err
returns-in-Err-clause-err g c =
    let old = c.args.table.now in
    let new = c.release.new.self in
    let names = g.N.PushHeld.roll c.args.names.now in
    let id = c.args.id in
    ap (λ (ns : List NameId). names_numbered new ns) c.in-Err.ensures.err.numbers
    ∙ c.orders_stay.ensures.released_names old new id.0 names.held names.numbers c.release.ensures (inr (new_nowhere old names.held names.numbers id c.requires.own)) c.requires.own.order
