use Rattle.std.proofs.Common.{◌∷◌, [], ap, ◌∙◌, refl}
use Rattle.std.proofs.lemmas.Option.{slice_get_read}
use Rattle.cpe_rows.specs.Evaluation.{joined}
use Rattle.certificate_check.specs.Certificates.{given_truths}
use Rattle.certificate_check.proofs.Given.{join_more}
use Rattle.certificate_check.proofs.check.join_all.Goals as goal

pub loop-why-preserved : goal.loop-why-preserved
loop-why-preserved c =
    let ws = c.args.given.now in
    let o = c.why-item.result in
    c.join-truth.ensures
    ∙ (ap (λ t. joined c.args.operator (t ∷ given_truths (o ∷ []))) c.loop-why.invariant
    ∙ join_more c.args.operator ws c.loop-why.why-index o (slice_get_read ws _ c.loop-why.why-index o refl c.loop-why-test.true c.why-item.is))
