use Rattle.std.proofs.Common.{rules, ◌++◌, ◌≤◌, ℕ, List, length, false, sym, ap, subst, ◌∙◌, refl, arith}
use Rattle.std.specs.List.{filter}
use Rattle.std.specs.List.Sorted.{IsPermutation}
use Rattle.std.proofs.lemmas.List.Sorted.{IsNonDecreasingBy-from_sort_by_key}
use Rattle.cpe_relation.specs.NameRelation.{covers}
use Rattle.name_index.specs.Elements.{SameElements}
use Rattle.name_index.specs.declared.table.NameId.{NameId}
use Rattle.name_index.specs.Table.{kept_at}
use Rattle.name_index.specs.Index.{ids, is_product_covered, is_covered}
use Rattle.name_index.proofs.Covered.{walk_live, tail_live, found_all, found_more, walk_length, covered_same, product_covered, fewer_covered, rises, once_filtered}
use Rattle.name_index.proofs.index.NameIndex.covered_by.Goals as goal

pub loop-id-init : goal.loop-id-init
loop-id-init g c = record {
  live = walk_live c.args.table.now c.args.self.now.held (is_product_covered c.args.table.now c.args.name.now.product) c.into_iter-id-iterator.result c.requires.fits (subst (SameElements (filter (is_product_covered c.args.table.now c.args.name.now.product) (ids c.args.self.now.held))) (sym c.into_iter-id-iterator.ensures.into_iter_gives) c.with_covered_product-id-items.ensures);
  later = omega arith;
  looked = refl;
  found = ap (λ (xs : List NameId). xs ++ filter (is_covered c.args.table.now c.args.name.now) c.into_iter-id-iterator.result) c.new-found.ensures.items;
}

pub look-other-requires : goal.look-other-requires
look-other-requires g c = (tail_live c.args.table.now c.in-Some.id c.next.new.self c.loop-id.id-iterator c.in-Some.ensures.steps c.loop-id.invariant.live).0

pub loop-id-preserved : goal.loop-id-preserved
loop-id-preserved g c = record {
  live = (tail_live c.args.table.now c.in-Some.id c.next.new.self c.loop-id.id-iterator c.in-Some.ensures.steps c.loop-id.invariant.live).1;
  later = omega (arith, c.loop-id.invariant.later, c.look-other.ensures.step);
  looked = omega (arith, c.loop-id.invariant.looked, c.look-other.ensures.step, ap length c.in-Some.ensures.steps);
  found = found_more (is_covered c.args.table.now c.args.name.now) c.loop-id.found.items _ c.next.new.self c.loop-id.id-iterator c.in-Some.id false c.in-Some.ensures.steps (ap (covers c.args.name.now) (sym c.look-other.ensures.name) ∙ sym c.is_covering.ensures ∙ c.if-is_covering.false) c.loop-id.invariant.found;
}

pub returns-clause-covered : goal.returns-clause-covered
returns-clause-covered g c =
    let q = is_covered c.args.table.now c.args.name.now in
    let p = is_product_covered c.args.table.now c.args.name.now.product in
    let all = found_all q c.loop-id.found.items c.loop-id.id-iterator c.into_iter-id-iterator.result c.in-None.ensures.steps.0 c.loop-id.invariant.found in
    covered_same p q (ids c.args.self.now.held) c.into_iter-id-iterator.result c.sort_by_key.new.self.items (λ id h. product_covered c.args.name.now (kept_at c.args.table.now id.0).name h) (subst (SameElements (filter (is_product_covered c.args.table.now c.args.name.now.product) (ids c.args.self.now.held))) (sym c.into_iter-id-iterator.ensures.into_iter_gives) c.with_covered_product-id-items.ensures)
    (subst (λ (xs : List NameId). IsPermutation xs c.sort_by_key.new.self.items) all c.in_ok-sort_by_key.ensures.permutation)

pub returns-clause-rising : goal.returns-clause-rising
returns-clause-rising g c =
    let q = is_covered c.args.table.now c.args.name.now in
    let same = returns-clause-covered g c in
    rises c.sort_by_key.new.self.items (IsNonDecreasingBy-from_sort_by_key (λ (id : NameId). id.0) _ c.in_ok-sort_by_key.ensures.sorted (λ a r f k. search rules))
    (λ n. subst (λ (m : ℕ). m ≤ 1) (same _) (once_filtered c.args.self.now.held q n c.lawful.ensures))

pub returns-in_err-push-clause-steps : goal.returns-in_err-push-clause-steps
returns-in_err-push-clause-steps g c = (
  omega (arith, c.loop-id.invariant.later, c.look-other.ensures.step),
  omega (arith, c.loop-id.invariant.looked, c.look-other.ensures.step, ap length c.in-Some.ensures.steps, walk_length (is_product_covered c.args.table.now c.args.name.now.product) (ids c.args.self.now.held) c.into_iter-id-iterator.result (subst (SameElements (filter (is_product_covered c.args.table.now c.args.name.now.product) (ids c.args.self.now.held))) (sym c.into_iter-id-iterator.ensures.into_iter_gives) c.with_covered_product-id-items.ensures), fewer_covered c.args.table.now c.args.name.now.product (ids c.args.self.now.held)),
)

pub returns-in_err-sort_by_key-clause-steps : goal.returns-in_err-sort_by_key-clause-steps
returns-in_err-sort_by_key-clause-steps g c = (
  c.loop-id.invariant.later,
  omega (arith, c.loop-id.invariant.looked, walk_length (is_product_covered c.args.table.now c.args.name.now.product) (ids c.args.self.now.held) c.into_iter-id-iterator.result (subst (SameElements (filter (is_product_covered c.args.table.now c.args.name.now.product) (ids c.args.self.now.held))) (sym c.into_iter-id-iterator.ensures.into_iter_gives) c.with_covered_product-id-items.ensures), fewer_covered c.args.table.now c.args.name.now.product (ids c.args.self.now.held)),
)

pub returns-clause-steps : goal.returns-clause-steps
returns-clause-steps g c = (
  c.loop-id.invariant.later,
  omega (arith, c.loop-id.invariant.looked, walk_length (is_product_covered c.args.table.now c.args.name.now.product) (ids c.args.self.now.held) c.into_iter-id-iterator.result (subst (SameElements (filter (is_product_covered c.args.table.now c.args.name.now.product) (ids c.args.self.now.held))) (sym c.into_iter-id-iterator.ensures.into_iter_gives) c.with_covered_product-id-items.ensures), fewer_covered c.args.table.now c.args.name.now.product (ids c.args.self.now.held)),
)

pub returns-clause-looked : goal.returns-clause-looked
returns-clause-looked g c =
    omega (arith, c.loop-id.invariant.looked, ap length c.in-None.ensures.steps.0, walk_length (is_product_covered c.args.table.now c.args.name.now.product) (ids c.args.self.now.held) c.into_iter-id-iterator.result (subst (SameElements (filter (is_product_covered c.args.table.now c.args.name.now.product) (ids c.args.self.now.held))) (sym c.into_iter-id-iterator.ensures.into_iter_gives) c.with_covered_product-id-items.ensures))
