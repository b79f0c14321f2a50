use Rattle.std.proofs.Common.{◌≡◌, take}
use Rattle.cpe_rows.specs.Evaluation.{joined}
use Rattle.certificate_check.specs.Certificates.{given_truths}
use Rattle.certificate_check.proofs.check.join_all.Given as goal

abbrev pub invariant-loop-why : goal.invariant-loop-why
invariant-loop-why l = l.truth ≡ joined l.operator (given_truths (take l.why-index l.given))
