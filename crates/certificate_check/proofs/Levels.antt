-- Lemmas: at each level, a certificate passes its test exactly if it is good.
use Rattle.std.proofs.Common.{◌≡◌, ◌⊎◌, inl, inr, List, [], ◌∷◌, Bool, true, false, not, ◌&&◌, ◌||◌, Option, Some, None, map, is_some, refl, sym, ◌∙◌, subst, rules}
use Rattle.std.specs.List.{list_any, list_all}
use Rattle.std.proofs.lemmas.Bool.{and_parts, and_from, or_left, or_right, or_cases, true≢false}
use Rattle.cpe_rows.specs.cpe_name.Eleven.{Values}
use Rattle.cpe_relation.specs.NameRelation.{covers}
use Rattle.cpe_relation.specs.Maybe.{maybe}
use Rattle.cpe_rows.specs.Reach.{Among}
use Rattle.cpe_rows.specs.Rows.{Rows}
use Rattle.cpe_rows.specs.Lawful.{IsLawful}
use Rattle.cpe_rows.specs.Truth.{same_truth}
use Rattle.cpe_rows.specs.Evaluation.{joined, negated}
use Rattle.cpe_rows.specs.Verdict.{fact_truth, check_truth}
use Rattle.cpe_rows.specs.declared.truth.Truth.{Truth}
use Rattle.cpe_rows.specs.declared.truth.Truth.TheVariants.{True, False, Error, Unknown}
use Rattle.cpe_rows.specs.declared.statement.Mode.{Mode}
use Rattle.cpe_rows.specs.declared.test.CheckKey.{CheckKey}
use Rattle.cpe_rows.specs.declared.test.Operator.{Operator}
use Rattle.cpe_rows.proofs.Paths.{element_passes, some_element}
use Rattle.certificate_check.specs.Certificates.{given_truths}
use Rattle.certificate_check.specs.Good.{deciding, AreGood, GoodLogic, GoodPair, GoodFact, GoodCheck}
use Rattle.certificate_check.specs.Tested.{all_pass, is_of_all, is_of_one, is_settled, logic_passes, is_fit, pair_passes, fact_passes, check_passes}
use Rattle.certificate_check.specs.declared.certificate.Why.{Why}
use Rattle.certificate_check.specs.declared.certificate.Why.TheOpen.{Why-F}
use Rattle.certificate_check.proofs.Elements.{DecidesTruth}
use Rattle.certificate_check.proofs.Walks.{fit_decides}

never : {P : Type 0} → (P → ⊥) → DecidesTruth false P
never clash = (λ h. absurd (true≢false (sym h)), λ p. absurd (clash p))

both : {P Q : Type 0} (b c : Bool) → DecidesTruth b P → DecidesTruth c Q → DecidesTruth (b && c) (P × Q)
both b c p q = (λ h. let k = and_parts b c h in (p.0 k.0, q.0 k.1), λ x. and_from b c (p.1 x.0) (q.1 x.1))

either : {P Q : Type 0} (b c : Bool) → DecidesTruth b P → DecidesTruth c Q → DecidesTruth (b || c) (P ⊎ Q)
either b c p q = (
  λ h. elim (or_cases b c h) [ inl k ↦ inl (p.0 k) | inr k ↦ inr (q.0 k) ],
  λ x. elim x [ inl k ↦ or_left b c (p.1 k) | inr k ↦ or_right b c (q.1 k) ],
)

pub truth_decides : (t u : Truth) → DecidesTruth (same_truth t u) (t ≡ u)
truth_decides t u = search rules

all_decides : {X : Type 0} (good : X → Why → Type 0) (passes : X → Why → Bool) → ((x : X) (w : Why) → DecidesTruth (passes x w) (good x w))
    → (xs : List X) (ws : List (Option Why)) → DecidesTruth (all_pass (map passes xs) ws) (AreGood good xs ws)
all_decides good passes t [] [] = (λ h. tt, λ x. refl)
all_decides good passes t [] (w ∷ ws) = never (λ x. x)
all_decides good passes t (x ∷ xs) [] = never (λ x. x)
all_decides good passes t (x ∷ xs) (None ∷ ws) = all_decides good passes t xs ws
all_decides good passes t (x ∷ xs) (Some w ∷ ws) =
    both (passes x w) (all_pass (map passes xs) ws) (t x w) (all_decides good passes t xs ws)

among_decides : (t : Truth) (ts : List Truth) → DecidesTruth (list_any (same_truth t) ts) (Among ts t)
among_decides t ts = (
  λ h. let w = some_element (same_truth t) ts h in subst (Among ts) (sym ((truth_decides t w.0).0 w.2)) w.1,
  λ k. element_passes (same_truth t) ts t k ((truth_decides t t).1 refl),
)

pub logic_decides : {X : Type 0} (good : X → Why → Type 0) (passes : X → Why → Bool) → ((x : X) (w : Why) → DecidesTruth (passes x w) (good x w))
    → (operator : Operator) (negate : Bool) (xs : List X) (w : Why-F Why)
    → DecidesTruth (logic_passes (map passes xs) operator negate w) (GoodLogic good operator negate xs w)
logic_decides good passes t operator negate xs (Why-F.Logic truth of) =
    both (all_pass (map passes xs) of) (is_settled operator negate truth of)
    (all_decides good passes t xs of)
    (either (is_of_all operator negate truth of) (is_of_one operator negate truth of)
    (both (list_all is_some of) (same_truth truth (negated negate (joined operator (given_truths of)))) (λ h. h, λ h. h) (truth_decides truth _))
    (both (list_any (same_truth (deciding operator)) (given_truths of)) (same_truth truth (negated negate (deciding operator)))
    (among_decides (deciding operator) (given_truths of)) (truth_decides truth _)))
logic_decides good passes t operator negate xs (Why-F.Pair truth fact one) = never (λ x. x)
logic_decides good passes t operator negate xs (Why-F.Plain truth) = never (λ x. x)

module _ (rows : Rows) (lawful : IsLawful rows) (mode : Mode) (name : Values) where
  not_decides : (t u : Truth) → DecidesTruth (not (same_truth t u)) (t ≡ u → ⊥)
  not_decides t u = go (same_truth t u) refl where
    go : (b : Bool) → same_truth t u ≡ b → DecidesTruth (not b) (t ≡ u → ⊥)
    go true e = (λ h. absurd (true≢false (sym h)), λ f. absurd (f ((truth_decides t u).0 e)))
    go false e = (λ h is. true≢false (sym ((truth_decides t u).1 is) ∙ e), λ f. refl)

  pair_decides : (truth : Truth) (fact one : List Values) → DecidesTruth (pair_passes rows mode name truth fact one) (GoodPair rows mode name truth fact one)
  pair_decides True fact one = fit_decides rows lawful covers mode name fact one
  pair_decides Unknown fact one =
      both (is_fit maybe rows mode name fact one) (not (same_truth (fact_truth rows mode name) True)) (fit_decides rows lawful maybe mode name fact one)
      (not_decides (fact_truth rows mode name) True)
  pair_decides False fact one = never (λ x. x)
  pair_decides Error fact one = never (λ x. x)

  pub fact_decides : (w : Why-F Why) → DecidesTruth (fact_passes rows mode name w) (GoodFact rows mode name w)
  fact_decides (Why-F.Logic truth of) = never (λ x. x)
  fact_decides (Why-F.Pair truth fact one) = pair_decides truth fact one
  fact_decides (Why-F.Plain truth) =
      both (same_truth truth False) (same_truth (fact_truth rows mode name) False) (truth_decides truth False) (truth_decides
      (fact_truth rows mode name) False)

pub check_decides : (rows : Rows) (key : CheckKey) (w : Why-F Why) → DecidesTruth (check_passes rows key w) (GoodCheck rows key w)
check_decides rows key (Why-F.Logic truth of) = never (λ x. x)
check_decides rows key (Why-F.Pair truth fact one) = never (λ x. x)
check_decides rows key (Why-F.Plain truth) = truth_decides truth (check_truth rows key)
