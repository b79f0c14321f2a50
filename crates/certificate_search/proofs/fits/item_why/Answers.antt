use Rattle.std.proofs.Common.{◌≡◌, IfOk, IfSome, Option, map, ap, subst, ◌∙◌}
use Rattle.cpe_rows.specs.declared.truth.Truth.{Truth}
use Rattle.cpe_rows.specs.declared.truth.Truth.TheVariants.{False}
use Rattle.certificate_check.specs.Leading.{followed}
use Rattle.certificate_check.specs.Relates.{related, truth_of_relates}
use Rattle.certificate_check.specs.declared.certificate.Why as why
use Rattle.certificate_check.proofs.Loops.{now}
use Rattle.certificate_search.specs.Choices.{Fit, why_of_pair}
use Rattle.certificate_search.specs.Lent.{lent_fit}
use Rattle.certificate_search.proofs.FirstFits.{first_by_ends}
use Rattle.certificate_search.proofs.fits.item_why.Goals as goal

pub returns-in-Some : goal.returns-in-Some
returns-in-Some g c =
    let name = c.args.name.now in
    let es = followed (g.R.PlainRows.rows c.args.rows.now) c.args.mode in
    subst (λ (o : Option Fit). IfOk c.pair.result (λ w. IfSome o (λ fit. w ≡ why_of_pair es name (truth_of_relates c.args.relates) fit)))
    (first_by_ends (related c.args.relates) es name c.args.item.now _ (map now c.deref.result.now) (map now c.deref-2.result.now) (ap (map now) c.deref.ensures.value ∙ c.in_ok-fact_ends.ensures)
    (ap (map now) c.deref-2.ensures.value ∙ c.in_ok-item_ends.ensures) c.in-Some.ensures)
    (subst (λ (t : Truth). IfOk c.pair.result (λ w. w ≡ why_of_pair es name t (lent_fit c.in-Some.fit))) c.truth.ensures c.pair.ensures)

pub returns : goal.returns
returns g c =
    let es = followed (g.R.PlainRows.rows c.args.rows.now) c.args.mode in
    subst (λ (o : Option Fit). IfSome o (λ fit. why.Plain False ≡ why_of_pair es c.args.name.now (truth_of_relates c.args.relates) fit))
    (first_by_ends (related c.args.relates) es c.args.name.now c.args.item.now _ (map now c.deref.result.now) (map now c.deref-2.result.now) (ap (map now) c.deref.ensures.value ∙ c.in_ok-fact_ends.ensures)
    (ap (map now) c.deref-2.ensures.value ∙ c.in_ok-item_ends.ensures) c.in-None.ensures) tt
