use Rattle.std.proofs.Common.{◌++◌, List, length, sym, ap, subst, ◌∙◌, refl, arith}
use Rattle.std.specs.List.{filter}
use Rattle.std.proofs.lemmas.Bool.{or_right}
use Rattle.name_index.specs.Elements.{SameElements}
use Rattle.name_index.specs.declared.table.NameId.{NameId}
use Rattle.name_index.specs.Table.{kept_at}
use Rattle.name_index.specs.Index.{ids, is_product_covered, is_covered}
use Rattle.name_index.proofs.Covered.{walk_live, tail_live, found_all, found_more, walk_length, product_covered, fewer_covered}
use Rattle.level_board.specs.Targets.{is_loose, is_maybe_target}
use Rattle.level_board.proofs.Meetings.{maybe_product, walk_found}
use Rattle.level_board.proofs.meeting.meet_plain.Goals as goal

pub loop-target-init : goal.loop-target-init
loop-target-init g c = record {
  live = walk_live c.args.table.now c.args.index.now.held (is_product_covered c.args.table.now c.args.name.now.product) c.into_iter-target-iterator.result c.requires.fits
      (subst (SameElements (filter (is_product_covered c.args.table.now c.args.name.now.product) (ids c.args.index.now.held))) (sym c.into_iter-target-iterator.ensures.into_iter_gives) c.with_covered_product-target-items.ensures);
  later = omega arith;
  looked = refl;
  covered = ap (λ (xs : List NameId). xs ++ filter (is_covered c.args.table.now c.args.name.now) c.into_iter-target-iterator.result) c.requires.none;
  maybe = ap (λ (xs : List NameId). xs ++ filter (is_maybe_target c.args.table.now c.args.name.now) c.into_iter-target-iterator.result) c.requires.none_maybe;
}

pub loop-target-preserved : goal.loop-target-preserved
loop-target-preserved g c =
    let q = is_covered c.args.table.now c.args.name.now in
    let r = is_maybe_target c.args.table.now c.args.name.now in
    record {
      live = (tail_live c.args.table.now c.in-Some.target c.next.new.self c.loop-target.target-iterator c.in-Some.ensures.steps c.loop-target.invariant.live).1;
      later = omega (arith, c.loop-target.invariant.later, c.push_met.ensures.step);
      looked = omega (arith, c.loop-target.invariant.looked, c.push_met.ensures.step, ap length c.in-Some.ensures.steps);
      covered = ap (λ (xs : List NameId). xs ++ filter q c.next.new.self) c.in_ok-push_met.ensures.covered
          ∙ found_more q c.loop-target.covered.items _ c.next.new.self c.loop-target.target-iterator c.in-Some.target (q c.in-Some.target) c.in-Some.ensures.steps refl c.loop-target.invariant.covered;
      maybe = ap (λ (xs : List NameId). xs ++ filter r c.next.new.self) c.in_ok-push_met.ensures.maybe
          ∙ found_more r c.loop-target.maybes.items _ c.next.new.self c.loop-target.target-iterator c.in-Some.target (r c.in-Some.target) c.in-Some.ensures.steps refl c.loop-target.invariant.maybe;
    }

pub returns-in_err-push_met-clause-steps : goal.returns-in_err-push_met-clause-steps
returns-in_err-push_met-clause-steps g c = (
  omega (arith, c.loop-target.invariant.later, c.push_met.ensures.step),
  omega (arith, c.loop-target.invariant.looked, c.push_met.ensures.step, ap length c.in-Some.ensures.steps, walk_length (is_product_covered c.args.table.now c.args.name.now.product) (ids c.args.index.now.held) c.into_iter-target-iterator.result (subst (SameElements (filter (is_product_covered c.args.table.now c.args.name.now.product) (ids c.args.index.now.held))) (sym c.into_iter-target-iterator.ensures.into_iter_gives) c.with_covered_product-target-items.ensures), fewer_covered c.args.table.now c.args.name.now.product (ids c.args.index.now.held)),
)

pub returns-clause-covered : goal.returns-clause-covered
returns-clause-covered g c =
    let q = is_covered c.args.table.now c.args.name.now in
    let p = is_product_covered c.args.table.now c.args.name.now.product in
    walk_found p q (λ x. is_loose c.args.table.now x.0) (λ x h. or_right (is_loose c.args.table.now x.0) (p x) (product_covered c.args.name.now (kept_at c.args.table.now x.0).name h)) c.args.index.now.held c.into_iter-target-iterator.result c.loop-target.covered.items c.requires.plain
    (subst (SameElements (filter p (ids c.args.index.now.held))) (sym c.into_iter-target-iterator.ensures.into_iter_gives) c.with_covered_product-target-items.ensures)
    (found_all q c.loop-target.covered.items c.loop-target.target-iterator c.into_iter-target-iterator.result c.in-None.ensures.steps.0 c.loop-target.invariant.covered)

pub returns-clause-maybe : goal.returns-clause-maybe
returns-clause-maybe g c =
    let q = is_maybe_target c.args.table.now c.args.name.now in
    let p = is_product_covered c.args.table.now c.args.name.now.product in
    walk_found p q (λ x. is_loose c.args.table.now x.0) (λ x h. maybe_product c.relation_laws.ensures.undefined c.args.name.now (kept_at c.args.table.now x.0).name h) c.args.index.now.held c.into_iter-target-iterator.result c.loop-target.maybes.items c.requires.plain
    (subst (SameElements (filter p (ids c.args.index.now.held))) (sym c.into_iter-target-iterator.ensures.into_iter_gives) c.with_covered_product-target-items.ensures)
    (found_all q c.loop-target.maybes.items c.loop-target.target-iterator c.into_iter-target-iterator.result c.in-None.ensures.steps.0 c.loop-target.invariant.maybe)

pub returns-clause-steps : goal.returns-clause-steps
returns-clause-steps g c = (
  c.loop-target.invariant.later,
  omega (arith, c.loop-target.invariant.looked, walk_length (is_product_covered c.args.table.now c.args.name.now.product) (ids c.args.index.now.held) c.into_iter-target-iterator.result (subst (SameElements (filter (is_product_covered c.args.table.now c.args.name.now.product) (ids c.args.index.now.held))) (sym c.into_iter-target-iterator.ensures.into_iter_gives) c.with_covered_product-target-items.ensures), fewer_covered c.args.table.now c.args.name.now.product (ids c.args.index.now.held)),
)
