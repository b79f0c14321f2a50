use Rattle.std.proofs.Common.{None, ap}
use Rattle.std.proofs.lemmas.Result.{IfOk-weaker}
use Rattle.cpe_rows.specs.cpe_relation.Maybe.{maybe}
use Rattle.certificate_check.specs.Leading.{followed}
use Rattle.certificate_search.specs.Choices.{why_by_fits}
use Rattle.certificate_search.proofs.FirstFits.{by_lent, by_none}
use Rattle.certificate_search.proofs.fits.other_why.Goals as goal

pub returns-in-Some : goal.returns-in-Some
returns-in-Some g c =
    let rows = g.R.PlainRows.rows c.args.rows.now in
    let es = followed rows c.args.mode in
    IfOk-weaker c.item_why.result _ _
    (by_lent maybe es c.args.name.now rows.items _ c.in-Some.item c.in_ok-item.ensures c.in-Some.is (why_by_fits es c.args.name.now None)) c.item_why.ensures

pub returns-in-None : goal.returns-in-None
returns-in-None g c =
    let rows = g.R.PlainRows.rows c.args.rows.now in
    let es = followed rows c.args.mode in
    ap (why_by_fits es c.args.name.now None) (by_none maybe es c.args.name.now rows.items _ c.in_ok-item.ensures c.in-None.is)
