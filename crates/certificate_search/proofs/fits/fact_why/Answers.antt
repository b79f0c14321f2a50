use Rattle.std.proofs.Common.{◌≡◌, IfOk, Option, subst}
use Rattle.std.proofs.lemmas.Result.{IfOk-weaker}
use Rattle.cpe_rows.specs.cpe_relation.NameRelation.{covers}
use Rattle.cpe_rows.specs.cpe_relation.Maybe.{maybe}
use Rattle.certificate_check.specs.Leading.{followed}
use Rattle.certificate_search.specs.Choices.{Fit, first_fit, why_by_fits}
use Rattle.certificate_search.proofs.FirstFits.{by_lent, by_none}
use Rattle.certificate_search.proofs.fits.fact_why.Goals as goal

pub returns-in-Some : goal.returns-in-Some
returns-in-Some g c =
    let rows = g.R.PlainRows.rows c.args.rows.now in
    let es = followed rows c.args.mode in
    let name = c.args.name.now in
    IfOk-weaker c.item_why.result _ _
    (by_lent covers es name rows.items _ c.in-Some.item c.in_ok-item.ensures c.in-Some.is (λ (o : Option Fit). why_by_fits es name o (first_fit maybe es rows.items name)))
    c.item_why.ensures

pub returns-in-None : goal.returns-in-None
returns-in-None g c =
    let rows = g.R.PlainRows.rows c.args.rows.now in
    let es = followed rows c.args.mode in
    let name = c.args.name.now in
    subst (λ (o : Option Fit). IfOk c.other_why.result (λ w. w ≡ why_by_fits es name o (first_fit maybe es rows.items name)))
    (by_none covers es name rows.items _ c.in_ok-item.ensures c.in-None.is) c.other_why.ensures
