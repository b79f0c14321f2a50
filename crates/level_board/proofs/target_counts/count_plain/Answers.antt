use Rattle.std.proofs.Common.{◌≡◌, ◌&&◌, [], length, count_by, sym, ap, subst, ◌∙◌, inl, inr, refl, arith}
use Rattle.std.specs.List.{filter}
use Rattle.std.proofs.lemmas.Bool.{and_parts}
use Rattle.name_index.specs.declared.products.Side.TheVariants as side
use Rattle.name_index.specs.Elements.{SameElements}
use Rattle.name_index.specs.declared.table.NameId.{NameId}
use Rattle.name_index.specs.Table.{kept_at}
use Rattle.name_index.specs.Index.{ids, is_covered, is_near}
use Rattle.name_index.proofs.Covered.{walk_length, walk_live}
use Rattle.level_board.specs.Targets.{is_loose, is_maybe_target}
use Rattle.level_board.proofs.TargetWalks.{walk_few, walk_passing}
use Rattle.level_board.proofs.target_counts.count_plain.Goals as goal

pub loop-target-init : goal.loop-target-init
loop-target-init g c =
    let q = is_near c.args.table.now side.Source c.args.name.now.product in
    let same : SameElements (filter (is_near c.args.table.now side.Source c.args.name.now.product) (ids c.args.index.now.held)) c.into_iter-target-iterator.result = subst (SameElements (filter (is_near c.args.table.now side.Source c.args.name.now.product) (ids c.args.index.now.held))) (sym c.into_iter-target-iterator.ensures.into_iter_gives) c.near-target-items.ensures in
    record {
      live = walk_live c.args.table.now c.args.index.now.held q c.into_iter-target-iterator.result c.requires.fits same;
      looked = refl;
      covered = omega arith;
      maybes = omega arith;
      few_covered = omega (arith, c.requires.few, walk_few q c.args.index.now.held c.into_iter-target-iterator.result same);
      few_maybes = omega (arith, c.requires.few, walk_few q c.args.index.now.held c.into_iter-target-iterator.result same);
    }

pub returns-clause-covered : goal.returns-clause-covered
returns-clause-covered g c =
    let ends : c.loop-target.target-iterator ≡ [] = c.in-None.ensures.steps.0 in
    let all : c.loop-target.covered ≡ count_by (is_covered c.args.table.now c.args.name.now) c.into_iter-target-iterator.result = omega (arith, c.loop-target.invariant.covered, ap (count_by (is_covered c.args.table.now c.args.name.now)) ends) in
    all
    ∙ walk_passing (is_covered c.args.table.now c.args.name.now) (is_near c.args.table.now side.Source c.args.name.now.product) (λ x. is_loose c.args.table.now x.0) (λ x h. c.maybe_laws.ensures.meet c.args.name.now (kept_at c.args.table.now x.0).name (inl h)) c.args.index.now.held c.into_iter-target-iterator.result c.requires.plain
    (subst (SameElements (filter (is_near c.args.table.now side.Source c.args.name.now.product) (ids c.args.index.now.held))) (sym c.into_iter-target-iterator.ensures.into_iter_gives) c.near-target-items.ensures)

pub returns-clause-maybe : goal.returns-clause-maybe
returns-clause-maybe g c =
    let ends : c.loop-target.target-iterator ≡ [] = c.in-None.ensures.steps.0 in
    let all : c.loop-target.maybes ≡ count_by (λ (x : NameId). c.args.some_open && is_maybe_target c.args.table.now c.args.name.now x) c.into_iter-target-iterator.result = omega (arith, c.loop-target.invariant.maybes, ap (count_by (λ (x : NameId). c.args.some_open && is_maybe_target c.args.table.now c.args.name.now x)) ends) in
    all
    ∙ walk_passing (λ (x : NameId). c.args.some_open && is_maybe_target c.args.table.now c.args.name.now x) (is_near c.args.table.now side.Source c.args.name.now.product) (λ x. is_loose c.args.table.now x.0) (λ x h. c.maybe_laws.ensures.meet c.args.name.now (kept_at c.args.table.now x.0).name (inr (and_parts c.args.some_open (is_maybe_target c.args.table.now c.args.name.now x) h).1)) c.args.index.now.held c.into_iter-target-iterator.result c.requires.plain
    (subst (SameElements (filter (is_near c.args.table.now side.Source c.args.name.now.product) (ids c.args.index.now.held))) (sym c.into_iter-target-iterator.ensures.into_iter_gives) c.near-target-items.ensures)

pub returns-clause-steps : goal.returns-clause-steps
returns-clause-steps g c =
    omega (arith, c.loop-target.invariant.looked, ap length c.in-None.ensures.steps.0, walk_length (is_near c.args.table.now side.Source c.args.name.now.product) (ids c.args.index.now.held) c.into_iter-target-iterator.result (subst (SameElements (filter (is_near c.args.table.now side.Source c.args.name.now.product) (ids c.args.index.now.held))) (sym c.into_iter-target-iterator.ensures.into_iter_gives) c.near-target-items.ensures))
