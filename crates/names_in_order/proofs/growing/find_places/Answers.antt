use Rattle.std.proofs.Common.{◌≡◌, ◌++◌, ℕ, List, length, sym, ap, subst, ◌∙◌, refl, arith}
use Rattle.std.specs.List.{filter, flat_map}
use Rattle.std.proofs.lemmas.List.{append-nil}
use Rattle.name_index.specs.Elements.{SameElements}
use Rattle.name_index.specs.declared.table.NameId.{NameId}
use Rattle.name_index.specs.Table.{kept_at}
use Rattle.name_index.specs.Index.{ids, is_product_covered, is_covered}
use Rattle.name_index.proofs.Covered.{walk_live, tail_live, product_covered}
use Rattle.names_in_order.specs.Held.{places_of_name}
use Rattle.names_in_order.specs.InOrder.{names_numbered}
use Rattle.names_in_order.specs.Places.{places_covered}
use Rattle.names_in_order.proofs.OrderLemmas.{names_distinct, names_same}
use Rattle.names_in_order.proofs.Places.{places_more, found_places, walked, fewer_looked}
use Rattle.names_in_order.proofs.growing.find_places.Goals as goal

pub loop-id-init : goal.loop-id-init
loop-id-init g c = record {
  live = walk_live c.args.table.now c.args.index.now.held (is_product_covered c.args.table.now c.args.name.now.product) c.into_iter-id-iterator.result c.requires.order.fits (subst (SameElements (filter (is_product_covered c.args.table.now c.args.name.now.product) (ids c.args.index.now.held))) (sym c.into_iter-id-iterator.ensures.into_iter_gives) c.with_covered_product-id-items.ensures);
  later = omega arith;
  looked = refl;
  found = ap (λ (xs : List ℕ). xs ++ flat_map (places_of_name (names_numbered c.args.table.now c.args.numbers.now.numbers) c.args.table.now) (filter (is_covered c.args.table.now c.args.name.now) c.into_iter-id-iterator.result)) c.new-places.ensures.items;
}

pub push_covered-requires-clause-live : goal.push_covered-requires-clause-live
push_covered-requires-clause-live g c = (tail_live c.args.table.now c.in-Some.id c.next.new.self c.loop-id.id-iterator c.in-Some.ensures.steps c.loop-id.invariant.live).0

pub loop-id-preserved : goal.loop-id-preserved
loop-id-preserved g c = record {
  live = (tail_live c.args.table.now c.in-Some.id c.next.new.self c.loop-id.id-iterator c.in-Some.ensures.steps c.loop-id.invariant.live).1;
  later = omega (arith, c.loop-id.invariant.later, c.push_covered.ensures.step);
  looked = omega (arith, c.loop-id.invariant.looked, c.push_covered.ensures.step, ap length c.in-Some.ensures.steps);
  found =
      places_more (places_of_name (names_numbered c.args.table.now c.args.numbers.now.numbers) c.args.table.now) (is_covered c.args.table.now c.args.name.now) c.loop-id.places.items c.push_covered.new.places.items
      (flat_map (places_of_name (names_numbered c.args.table.now c.args.numbers.now.numbers) c.args.table.now) (filter (is_covered c.args.table.now c.args.name.now) c.into_iter-id-iterator.result)) c.next.new.self c.loop-id.id-iterator c.in-Some.id
      (is_covered c.args.table.now c.args.name.now c.in-Some.id) c.in-Some.ensures.steps refl c.in_ok-push_covered.ensures.places c.loop-id.invariant.found;
}

pub returns-clause-covered : goal.returns-clause-covered
returns-clause-covered g c =
    let place = places_of_name (names_numbered c.args.table.now c.args.numbers.now.numbers) c.args.table.now in
    let q = is_covered c.args.table.now c.args.name.now in
    let walked = subst (SameElements (filter (is_product_covered c.args.table.now c.args.name.now.product) (ids c.args.index.now.held))) (sym c.into_iter-id-iterator.ensures.into_iter_gives) c.with_covered_product-id-items.ensures in
    let all : c.loop-id.places.items ≡ flat_map place (filter q c.into_iter-id-iterator.result) =
    sym (append-nil c.loop-id.places.items) ∙ ap (λ (xs : List NameId). c.loop-id.places.items ++ flat_map place (filter q xs)) (sym c.in-None.ensures.steps.0) ∙ c.loop-id.invariant.found in
    subst (SameElements (places_covered c.args.name.now (names_numbered c.args.table.now c.args.numbers.now.numbers))) (sym all)
    (found_places (names_numbered c.args.table.now c.args.numbers.now.numbers) c.args.table.now c.args.index.now.held c.args.name.now c.into_iter-id-iterator.result (names_distinct c.args.table.now c.args.numbers.now.numbers c.lawful.ensures c.requires.order.live c.lawful-2.ensures) (names_same c.args.table.now c.args.index.now.held c.args.numbers.now.numbers c.requires.order.same) walked (λ id h. product_covered c.args.name.now (kept_at c.args.table.now id.0).name h))

pub returns-clause-steps : goal.returns-clause-steps
returns-clause-steps g c = (
  c.loop-id.invariant.later,
  omega (arith, c.loop-id.invariant.looked, walked (names_numbered c.args.table.now c.args.numbers.now.numbers) c.args.table.now c.args.index.now.held c.args.name.now c.into_iter-id-iterator.result (names_distinct c.args.table.now c.args.numbers.now.numbers c.lawful.ensures c.requires.order.live c.lawful-2.ensures) (names_same c.args.table.now c.args.index.now.held c.args.numbers.now.numbers c.requires.order.same) (subst (SameElements (filter (is_product_covered c.args.table.now c.args.name.now.product) (ids c.args.index.now.held))) (sym c.into_iter-id-iterator.ensures.into_iter_gives) c.with_covered_product-id-items.ensures), fewer_looked c.args.name.now (names_numbered c.args.table.now c.args.numbers.now.numbers)),
)

pub returns-in_err-push_covered-clause-steps : goal.returns-in_err-push_covered-clause-steps
returns-in_err-push_covered-clause-steps g c = (
  omega (arith, c.loop-id.invariant.later, c.push_covered.ensures.step),
  omega (arith, c.loop-id.invariant.looked, c.push_covered.ensures.step, ap length c.in-Some.ensures.steps, walked (names_numbered c.args.table.now c.args.numbers.now.numbers) c.args.table.now c.args.index.now.held c.args.name.now c.into_iter-id-iterator.result (names_distinct c.args.table.now c.args.numbers.now.numbers c.lawful.ensures c.requires.order.live c.lawful-2.ensures) (names_same c.args.table.now c.args.index.now.held c.args.numbers.now.numbers c.requires.order.same) (subst (SameElements (filter (is_product_covered c.args.table.now c.args.name.now.product) (ids c.args.index.now.held))) (sym c.into_iter-id-iterator.ensures.into_iter_gives) c.with_covered_product-id-items.ensures), fewer_looked c.args.name.now (names_numbered c.args.table.now c.args.numbers.now.numbers)),
)

pub returns-clause-looked : goal.returns-clause-looked
returns-clause-looked g c = omega (arith, c.loop-id.invariant.looked, ap length c.in-None.ensures.steps.0, walked (names_numbered c.args.table.now c.args.numbers.now.numbers) c.args.table.now c.args.index.now.held c.args.name.now c.into_iter-id-iterator.result (names_distinct c.args.table.now c.args.numbers.now.numbers c.lawful.ensures c.requires.order.live c.lawful-2.ensures) (names_same c.args.table.now c.args.index.now.held c.args.numbers.now.numbers c.requires.order.same) (subst (SameElements (filter (is_product_covered c.args.table.now c.args.name.now.product) (ids c.args.index.now.held))) (sym c.into_iter-id-iterator.ensures.into_iter_gives) c.with_covered_product-id-items.ensures))
