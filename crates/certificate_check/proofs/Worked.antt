-- Lemmas: in the example, the test of each certificate has the stated result.
use Rattle.std.proofs.Common.{◌≡◌, inl, List, [], ◌∷◌, Bool, true, false, Option, Some, codes, refl, sym, ◌∙◌, subst}
use Rattle.cpe_relation.specs.NameRelation.{covers}
use Rattle.cpe_rows.specs.Evaluation.{joined, negated}
use Rattle.cpe_rows.specs.declared.truth.Truth.{Truth}
use Rattle.cpe_rows.specs.declared.truth.Truth.TheVariants.{True, Unknown}
use Rattle.cpe_rows.specs.declared.statement.Mode.TheVariants.{Plain}
use Rattle.cpe_rows.specs.declared.test.Operator.{Operator}
use Rattle.cpe_rows.specs.declared.test.Operator.TheVariants.{And, Or}
use Rattle.cpe_rows.specs.declared.test.Test.{Test, roll-Test}
use Rattle.cpe_rows.specs.declared.test.Test as test
use Rattle.cpe_rows.specs.declared.test.Test.TheOpen.{Test-F}
use Rattle.cpe_rows.specs.declared.test.Test.TheVariants as tests
use Rattle.certificate_check.specs.Good.{GoodLogic, HasTraces, GoodFact, GoodCheck, good_step, GoodFor, Good}
use Rattle.certificate_check.specs.Worked.{fact, worked_name, worked_key, below, worked_test, statement, rows, pair, negation, worked_certificate, IsTested}
use Rattle.certificate_check.specs.declared.certificate.Why.{Why, out-Why}
use Rattle.certificate_check.specs.declared.certificate.Why as why
use Rattle.certificate_check.specs.declared.certificate.Why.TheOpen.{Why-F}
use Rattle.certificate_check.specs.declared.certificate.Why.TheVariants as whys
use Rattle.certificate_check.proofs.Given.{given-logic, given-pair, given-plain}
use Rattle.certificate_check.proofs.GoodLevels.{good-level}
use Rattle.certificate_check.proofs.Right.{good_are_right}

raised : (t : Test-F Test) (w : Why) → good_step rows Plain Test (λ y. y) (GoodFor rows Plain) t w → GoodFor rows Plain (roll-Test t) w
raised t w g = subst (λ (G : Type 0). G) (sym (good-level rows Plain t w)) g

logic-good : (operator : Operator) (negate : Bool) (ts : List Test) (truth : Truth) (ws : List (Option Why))
    → GoodLogic (GoodFor rows Plain) operator negate ts (Why-F.Logic truth ws)
    → GoodFor rows Plain (test.Logic operator negate ts) (why.Logic truth ws)
logic-good operator negate ts truth ws g =
    subst (λ t. GoodFor rows Plain t (why.Logic truth ws)) (tests.rolls-Logic operator negate ts)
    (raised (Test-F.Logic operator negate ts) (why.Logic truth ws)
    (subst (GoodLogic (GoodFor rows Plain) operator negate ts) (sym (whys.outs-Logic truth ws)) g))

fits : HasTraces covers rows Plain fact (fact ∷ []) (worked_name ∷ [])
unfolding covers
fits = record {
  start = worked_name;
  fact_end = fact;
  item_end = worked_name;
  is_item = inl refl;
  fact_trace = refl;
  item_trace = refl;
  fact_ends = refl;
  item_ends = refl;
  related = refl;
}

fact-good : GoodFor rows Plain (test.Fact fact) pair
fact-good =
    subst (λ t. GoodFor rows Plain t pair) (tests.rolls-Fact fact)
    (raised (Test-F.Fact fact) pair (subst (GoodFact rows Plain fact) (sym (whys.outs-Pair True (fact ∷ []) (worked_name ∷ []))) fits))

check-good : GoodFor rows Plain (test.Check worked_key) (why.Plain Unknown)
check-good =
    subst (λ t. GoodFor rows Plain t (why.Plain Unknown)) (tests.rolls-Check worked_key)
    (raised (Test-F.Check worked_key) (why.Plain Unknown) (subst (GoodCheck rows worked_key) (sym (whys.outs-Plain Unknown)) refl))

below-good : GoodFor rows Plain below negation
below-good = logic-good Or true (test.Check worked_key ∷ []) Unknown (Some (why.Plain Unknown) ∷ [])
    ((check-good, tt), inl (refl, λ i. negated true (joined Or (sym (given-plain Unknown) i ∷ []))))

whole-good : GoodFor rows Plain worked_test (worked_certificate (codes "s") Unknown).why
whole-good = logic-good And false (test.Fact fact ∷ below ∷ []) Unknown (Some pair ∷ Some negation ∷ []) (
  (fact-good, (below-good, tt)),
  inl (
    refl,
    λ i. negated false (joined And (sym (given-pair True (fact ∷ []) (worked_name ∷ [])) i ∷ sym (given-logic Unknown (Some
        (why.Plain Unknown) ∷ [])) i ∷ [])),
  ),
)

other-bad : Good rows statement (worked_certificate (codes "s") True).why → ⊥
other-bad g =
    let here = good_are_right rows statement (worked_certificate (codes "s") True).why g in
    let there = good_are_right rows statement (worked_certificate (codes "s") Unknown).why whole-good in
    let same : True ≡ Unknown =
    sym (given-logic True (Some pair ∷ Some negation ∷ [])) ∙ (here ∙ (sym there ∙ given-logic Unknown (Some pair ∷ Some negation ∷ []))) in
    let w : ⊥ = cc in w

pub tested-is : IsTested
tested-is = record { holds = whole-good; fails = other-bad; absent = tt }
