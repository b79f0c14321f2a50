-- Lemmas: the truth of a good certificate is the verdict.
use Rattle.std.proofs.Common.{◌≡◌, inl, inr, List, [], ◌∷◌, Bool, true, false, Option, Some, None, map, if◌then◌else◌, refl, ap, sym, ◌∙◌, subst, is_some}
use Rattle.std.specs.List.{list_any, list_all}
use Rattle.cpe_rows.specs.cpe_name.Eleven.{Values}
use Rattle.cpe_relation.specs.NameRelation.{covers}
use Rattle.cpe_relation.specs.Maybe.{maybe}
use Rattle.cpe_rows.specs.Reach.{Among}
use Rattle.cpe_rows.specs.Rows.{Rows}
use Rattle.cpe_rows.specs.Truth.{same_truth, first_of}
use Rattle.cpe_rows.specs.Chains.{ends}
use Rattle.cpe_rows.specs.Evaluation.{joined, negated, test_truth, test_truth_step}
use Rattle.cpe_rows.specs.Verdict.{truth, is_followed, finds_item, fact_truth, check_truth}
use Rattle.cpe_rows.specs.declared.truth.Truth.{Truth}
use Rattle.cpe_rows.specs.declared.truth.Truth.TheVariants.{True, False, Error, Unknown}
use Rattle.cpe_rows.specs.declared.statement.Mode.{Mode}
use Rattle.cpe_rows.specs.declared.test.CheckKey.{CheckKey}
use Rattle.cpe_rows.specs.declared.test.Operator.{Operator}
use Rattle.cpe_rows.specs.declared.test.Operator.TheVariants.{And, Or}
use Rattle.cpe_rows.specs.declared.test.Test.{Test, roll-Test}
use Rattle.cpe_rows.specs.declared.test.Test.TheOpen.{Test-F}
use Rattle.cpe_rows.specs.declared.test.Test.TheFolds.{fold-roll-Test, ind-Test, map-Test}
use Rattle.cpe_rows.proofs.Paths.{element_passes}
use Rattle.certificate_check.specs.Certificates.{truth_in, given_truth, given_truths}
use Rattle.certificate_check.specs.Good.{deciding, AreGood, GoodLogic, HasTraces, GoodFact, GoodCheck, good_step, GoodFor}
use Rattle.certificate_check.specs.Checks.{GoodCertificatesAreRight}
use Rattle.certificate_check.specs.Leading.{followed}
use Rattle.certificate_check.specs.declared.certificate.Why.{Why, out-Why}
use Rattle.certificate_check.specs.declared.certificate.Why.TheOpen.{Why-F}
use Rattle.certificate_check.proofs.GoodLevels.{good-level, logic-map}
use Rattle.certificate_check.proofs.TraceEnds.{trace-ends}
use Rattle.certificate_check.proofs.Facts.{found_is}

-- ---- facts and checks

unknown : (a b : Bool) → (truth a b ≡ True → ⊥) → b ≡ true → Unknown ≡ truth a b
unknown true b h e = absurd (h refl)
unknown false b h e = ap (truth false) (sym e)

module _ (rows : Rows) (mode : Mode) (name : Values) where
  met : (relates : Values → Values → Bool) (fact item : List Values) → HasTraces relates rows mode name fact item → finds_item relates rows mode name ≡ true
  met relates fact item fit =
      let es = followed rows mode in
      found_is relates rows mode name
      ∙ element_passes (is_followed relates es name) rows.items fit.start fit.is_item
      (element_passes (λ f. list_any (relates f) (ends es fit.start)) (ends es name) fit.fact_end
      (trace-ends rows mode name fit.fact_end fact fit.fact_trace fit.fact_ends)
      (element_passes (relates fit.fact_end) (ends es fit.start) fit.item_end
      (trace-ends rows mode fit.start fit.item_end item fit.item_trace fit.item_ends) fit.related))

  fact-right : (w : Why-F Why) → GoodFact rows mode name w → truth_in w ≡ fact_truth rows mode name
  fact-right (Why-F.Logic truth of) g = absurd g
  fact-right (Why-F.Pair True fact item) g = ap (λ b. truth b (finds_item maybe rows mode name)) (sym (met covers fact item g))
  fact-right (Why-F.Pair Unknown fact item) g =
      unknown (finds_item covers rows mode name) (finds_item maybe rows mode name) g.1 (met maybe fact item g.0)
  fact-right (Why-F.Pair False fact item) g = absurd g
  fact-right (Why-F.Pair Error fact item) g = absurd g
  fact-right (Why-F.Plain truth) g = g.0 ∙ sym g.1

check-right : (rows : Rows) (key : CheckKey) (w : Why-F Why) → GoodCheck rows key w → truth_in w ≡ check_truth rows key
check-right rows key (Why-F.Logic truth of) g = absurd g
check-right rows key (Why-F.Pair truth fact item) g = absurd g
check-right rows key (Why-F.Plain truth) g = g

-- ---- logical tests

pub decided : (operator : Operator) (ts : List Truth) → Among ts (deciding operator) → joined operator ts ≡ deciding operator
decided And ts m = λ i. if element_passes (same_truth False) ts False m refl i then False else first_of (Error ∷ Unknown ∷ []) True ts
decided Or ts m = λ i. if element_passes (same_truth True) ts True m refl i then True else first_of (Error ∷ Unknown ∷ []) False ts

module _ {X : Type 0} (good : X → Why → Type 0) (truth_of : X → Truth) (right : (x : X) (w : Why) → good x w → given_truth w ≡ truth_of x) where
  all_right : (xs : List X) (ws : List (Option Why)) → AreGood good xs ws → list_all is_some ws ≡ true → given_truths ws ≡ map truth_of xs
  all_right [] [] g a = refl
  all_right [] (w ∷ ws) g a = absurd g
  all_right (x ∷ xs) [] g a = absurd g
  all_right (x ∷ xs) (None ∷ ws) g a = absurd (let w : ⊥ = cc in w)
  all_right (x ∷ xs) (Some w ∷ ws) g a = λ i. right x w g.0 i ∷ all_right xs ws g.1 a i

  some_right : (xs : List X) (ws : List (Option Why)) → AreGood good xs ws → (t : Truth) → Among (given_truths ws) t → Among (map truth_of xs) t
  some_right [] [] g t m = m
  some_right [] (w ∷ ws) g t m = absurd g
  some_right (x ∷ xs) [] g t m = absurd g
  some_right (x ∷ xs) (None ∷ ws) g t m = inr (some_right xs ws g t m)
  some_right (x ∷ xs) (Some w ∷ ws) g t (inl e) = inl (sym (right x w g.0) ∙ e)
  some_right (x ∷ xs) (Some w ∷ ws) g t (inr m) = inr (some_right xs ws g.1 t m)

  logic-right : (operator : Operator) (negate : Bool) (xs : List X) (w : Why-F Why) → GoodLogic good operator negate xs w
      → truth_in w ≡ negated negate (joined operator (map truth_of xs))
  logic-right operator negate xs (Why-F.Logic truth of) (g, inl all) =
      all.1 ∙ ap (λ ts. negated negate (joined operator ts)) (all_right xs of g all.0)
  logic-right operator negate xs (Why-F.Logic truth of) (g, inr one) =
      one.1 ∙ ap (negated negate) (sym (decided operator (map truth_of xs) (some_right xs of g (deciding operator) one.0)))
  logic-right operator negate xs (Why-F.Pair truth fact item) g = absurd g
  logic-right operator negate xs (Why-F.Plain truth) g = absurd g

-- ---- whole tests

module _ (rows : Rows) (mode : Mode) where
  abbrev found : Test → Truth
  found = test_truth (fact_truth rows mode) (check_truth rows)

  abbrev Right : Test → Type 0
  Right t = (w : Why) → GoodFor rows mode t w → given_truth w ≡ found t

  abbrev Shown : Type 0
  Shown = (t : Test) × Right t

  abbrev seen : Shown → Test
  seen e = e.0

  level : (y : Test-F Test) (w : Why) → GoodFor rows mode (roll-Test y) w → good_step rows mode Test (λ t. t) (GoodFor rows mode) y w
  level y w g = subst (λ (G : Type 0). G) (good-level rows mode y w) g

  together : (es : List Shown) → map (λ e. found (seen e)) es ≡ map found (map seen es)
  together [] = refl
  together (e ∷ es) = λ i. found (seen e) ∷ together es i

  rolled : (y : Test-F Shown) → Right (roll-Test (map-Test Shown Test seen y))
  rolled (Test-F.Logic operator negate es) = λ w g.
      let down = subst (λ (G : Type 0). G) (sym (logic-map seen (GoodFor rows mode) operator negate es (out-Why w))) (level
      (Test-F.Logic operator negate (map seen es)) w g) in
      logic-right (λ (e : Shown). GoodFor rows mode (seen e)) (λ (e : Shown). found (seen e)) (λ e v k. e.1 v k) operator negate es (out-Why w) down
      ∙ (ap (λ ts. negated negate (joined operator ts)) (together es)
      ∙ sym (fold-roll-Test Truth (test_truth_step (fact_truth rows mode) (check_truth rows)) (Test-F.Logic operator negate (map seen es))))
  rolled (Test-F.Fact name) = λ w g.
      fact-right rows mode name (out-Why w) (level (Test-F.Fact name) w g)
      ∙ sym (fold-roll-Test Truth (test_truth_step (fact_truth rows mode) (check_truth rows)) (Test-F.Fact name))
  rolled (Test-F.Check key) = λ w g.
      check-right rows key (out-Why w) (level (Test-F.Check key) w g)
      ∙ sym (fold-roll-Test Truth (test_truth_step (fact_truth rows mode) (check_truth rows)) (Test-F.Check key))

  right : (t : Test) → Right t
  right = ind-Test Right (λ x y is. subst (λ z. Right (roll-Test z)) is (rolled y))

pub good_are_right : GoodCertificatesAreRight
good_are_right rows s w g = right rows s.mode s.test w g
