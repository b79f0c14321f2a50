-- The truths that a certificate gives.
use Rattle.std.specs.Prelude.{List, Option, map, filter_map}
use Rattle.cpe_rows.specs.declared.truth.Truth.{Truth}
use Rattle.certificate_check.specs.declared.certificate.Why.{Why, out-Why}
use Rattle.certificate_check.specs.declared.certificate.Why.TheOpen.{Why-F}

-- the truth at the top level of a certificate, without the levels below
abbrev pub truth_in : {X : Type 0} → Why-F X → Truth
truth_in (Why-F.Logic truth of) = truth
truth_in (Why-F.Pair truth fact item) = truth
truth_in (Why-F.Plain truth) = truth

-- the truth that the certificate shows
abbrev pub given_truth : Why → Truth
given_truth w = truth_in (out-Why w)

-- the truths of those children that have a certificate
abbrev pub given_truths : List (Option Why) → List Truth
given_truths of = map given_truth (filter_map (λ w. w) of)
