use Rattle.std.proofs.Common.{List, length, sym, ap, subst, ◌∙◌, arith}
use Rattle.std.proofs.lemmas.List.{length-map}
use Rattle.name_index.specs.Index.{FitsTable}
use Rattle.level_board.specs.declared.target_parts.Loose.{Loose}
use Rattle.level_board.specs.Targets.{maybe_pairs}
use Rattle.level_board.specs.TargetParts.{pair_of_loose, pairs_of, targets_of}
use Rattle.level_board.proofs.TargetWalks.{covered_joined, maybe_joined, met_count}
use Rattle.level_board.proofs.target_parts.TargetParts.count.Goals as goal

pub count_loose-loose-requires-clause-fits : goal.count_loose-loose-requires-clause-fits
count_loose-loose-requires-clause-fits g c = subst (λ (xs : List Loose). FitsTable (pairs_of xs) c.args.table.now) (sym c.deref.ensures.value) c.requires.fits.loose

pub returns-clause-covered : goal.returns-clause-covered
returns-clause-covered g c = covered_joined c.args.table.now c.args.name.now (targets_of c.args.self.now) c.requires.fits c.maybe_laws.ensures.whole c.count_plain-plain.result.covered c.count_plain-plain.ensures.covered

pub returns-clause-maybe : goal.returns-clause-maybe
returns-clause-maybe g c = maybe_joined c.args.table.now c.args.name.now (targets_of c.args.self.now) c.requires.fits c.maybe_laws.ensures.part c.count_plain-plain.result.maybe c.count_loose-loose.result c.count_plain-plain.ensures.maybe (c.count_loose-loose.ensures.maybe ∙ ap (λ (xs : List Loose). maybe_pairs c.args.table.now c.args.name.now (pairs_of xs)) c.deref.ensures.value)

pub returns-clause-steps : goal.returns-clause-steps
returns-clause-steps g c = (
  omega (arith, c.count_plain-plain.ensures.steps, c.count_loose-loose.ensures.steps),
  omega (arith, c.count_plain-plain.ensures.steps, c.count_loose-loose.ensures.steps, ap length c.deref.ensures.value, length-map c.args.self.now.loose.items pair_of_loose, met_count c.args.table.now c.args.name.now.product c.args.self.now.plain.held (pairs_of c.args.self.now.loose.items) c.requires.fits.all_loose),
)
