use Rattle.std.proofs.Common.{map, refl, sym}
use Rattle.certificate_check.specs.Relates.{related}
use Rattle.certificate_check.proofs.Loops.{now, shown_at, shown_past}
use Rattle.certificate_search.proofs.FirstFits.{fit_here, fit_next, fit_none}
use Rattle.certificate_search.proofs.fits.fit_of.Goals as goal

pub loop-item_end-init : goal.loop-item_end-init
loop-item_end-init c = refl

pub returns-in-Some : goal.returns-in-Some
returns-in-Some c =
    sym (fit_here (related c.args.relates) (map now c.args.fact_ends.now) c.args.item.now (map now c.args.item_ends.now) c.loop-item_end.item_end-index
    c.item_end-item.result.now c.in-Some.fact_end.now c.loop-item_end.invariant
    (shown_at now c.args.item_ends.now c.loop-item_end.item_end-index c.item_end-item.result c.loop-item_end-test.true c.item_end-item.is) (sym c.in-Some.ensures))

pub loop-item_end-preserved : goal.loop-item_end-preserved
loop-item_end-preserved c =
    fit_next (related c.args.relates) (map now c.args.fact_ends.now) c.args.item.now (map now c.args.item_ends.now) c.loop-item_end.item_end-index
    c.item_end-item.result.now c.loop-item_end.invariant
    (shown_at now c.args.item_ends.now c.loop-item_end.item_end-index c.item_end-item.result c.loop-item_end-test.true c.item_end-item.is) (sym c.in_default.ensures)

pub returns : goal.returns
returns c =
    fit_none (related c.args.relates) (map now c.args.fact_ends.now) c.args.item.now (map now c.args.item_ends.now) c.loop-item_end.item_end-index
    c.loop-item_end.invariant (shown_past now c.args.item_ends.now c.loop-item_end.item_end-index c.loop-item_end-test.false)
