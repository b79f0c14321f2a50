use Rattle.std.proofs.Common.{◌≡◌, Option, true, ap, subst, sym, refl, ◌∙◌}
use Rattle.std.specs.Prelude.{IfSome, is_some}
use Rattle.std.specs.List.{list_any}
use Rattle.name_index.specs.declared.table.NameId.{NameId}
use Rattle.name_index.specs.Table.{HasName}
use Rattle.names_in_order.specs.InOrder.{same_id}
use Rattle.names_in_order.proofs.ChangeLemmas.{found_if, found_is, name_among, name_nowhere}
use Rattle.names_in_order.proofs.changing.find_number.Goals as goal

pub returns-in-Some-clause-found : goal.returns-in-Some-clause-found
returns-in-Some-clause-found c =
    let numbers = c.args.numbers.now.numbers in
    let id = c.in-Some.id in
    subst (λ (o : Option NameId). IfSome o (λ x. HasName c.args.table.now x.0 c.args.name.now)) (sym c.if_has.ensures)
    (found_is (list_any (same_id id) numbers) id (λ x. HasName c.args.table.now x.0 c.args.name.now) (λ has. c.in-Some.ensures.found))

pub returns-in-Some-clause-has : goal.returns-in-Some-clause-has
returns-in-Some-clause-has c =
    let numbers = c.args.numbers.now.numbers in
    let id = c.in-Some.id in
    subst (λ (o : Option NameId). IfSome o (λ x. list_any (same_id x) numbers ≡ true)) (sym c.if_has.ensures)
    (found_is (list_any (same_id id) numbers) id (λ x. list_any (same_id x) numbers ≡ true) (λ has. has))

pub returns-in-Some-clause-any : goal.returns-in-Some-clause-any
returns-in-Some-clause-any c =
    let numbers = c.args.numbers.now.numbers in
    let id = c.in-Some.id in
    ap (λ (o : Option NameId). is_some o) c.if_has.ensures
    ∙ found_if (list_any (same_id id) numbers) id
    ∙ sym (name_among c.args.table.now numbers id c.args.name.now c.lawful.ensures c.requires c.in-Some.ensures.found)

pub returns-in-None-clause-any : goal.returns-in-None-clause-any
returns-in-None-clause-any c = sym (name_nowhere c.args.table.now c.args.numbers.now.numbers c.args.name.now c.requires (c.in-None.ensures.none refl))
