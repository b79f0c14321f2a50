use Rattle.std.proofs.Common.{map, sym, ◌∙◌}
use Rattle.cpe_rows.specs.cpe_name.Eleven.{Values}
use Rattle.certificate_check.specs.Relates.{related}
use Rattle.certificate_check.proofs.Loops.{left_here, left_next, now, shown_at}
use Rattle.certificate_search.proofs.fits.first_relating.Goals as goal

pub returns-then-holds : goal.returns-then-holds
returns-then-holds c =
    sym (left_here (λ (n : Values). related c.args.relates n c.args.name.now) (map now c.args.names.now) c.loop-relating.relating-index c.relating-item.result.now
    c.loop-relating.invariant (shown_at now c.args.names.now c.loop-relating.relating-index c.relating-item.result c.loop-relating-test.true c.relating-item.is)
    (sym c.holds.ensures ∙ c.if-holds.true))

pub loop-relating-preserved : goal.loop-relating-preserved
loop-relating-preserved c =
    left_next (λ (n : Values). related c.args.relates n c.args.name.now) (map now c.args.names.now) c.loop-relating.relating-index c.relating-item.result.now
    c.loop-relating.invariant (shown_at now c.args.names.now c.loop-relating.relating-index c.relating-item.result c.loop-relating-test.true c.relating-item.is)
    (sym c.holds.ensures ∙ c.if-holds.false)
