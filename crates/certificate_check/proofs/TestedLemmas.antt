-- Lemmas: in lawful rows, a certificate passes its test exactly if it is good.
use Rattle.std.proofs.Common.{◌≡◌, List, [], ◌∷◌, Bool, true, false, Option, Some, map, refl, ap, sym, ◌∙◌, subst}
use Rattle.std.proofs.lemmas.Bool.{true≢false}
use Rattle.cpe_rows.specs.Rows.{Rows}
use Rattle.cpe_rows.specs.Lawful.{IsLawful}
use Rattle.cpe_rows.specs.declared.statement.Mode.{Mode}
use Rattle.cpe_rows.specs.declared.statement.Statement.{Statement}
use Rattle.cpe_rows.specs.declared.test.Test.{Test, roll-Test}
use Rattle.cpe_rows.specs.declared.test.Test.TheOpen.{Test-F}
use Rattle.cpe_rows.specs.declared.test.Test.TheFolds.{fold-roll-Test, ind-Test, map-Test}
use Rattle.certificate_check.specs.Checks.{IsFinding}
use Rattle.certificate_check.specs.Good.{good_step, GoodFor}
use Rattle.certificate_check.specs.Tested.{test_passes, test_passes_step, logic_passes}
use Rattle.certificate_check.specs.declared.certificate.Checked.TheVariants.{Holds, Fails}
use Rattle.certificate_check.specs.declared.certificate.Why.{Why, out-Why}
use Rattle.certificate_check.proofs.Elements.{DecidesTruth}
use Rattle.certificate_check.proofs.Levels.{logic_decides, fact_decides, check_decides}
use Rattle.certificate_check.proofs.GoodLevels.{good-level, logic-map}

moved : {P Q : Type 0} (b c : Bool) → b ≡ c → P ≡ Q → DecidesTruth b P → DecidesTruth c Q
moved b c e f t = (λ h. subst (λ (G : Type 0). G) f (t.0 (e ∙ h)), λ q. sym e ∙ t.1 (subst (λ (G : Type 0). G) (sym f) q))

module _ (rows : Rows) (lawful : IsLawful rows) (mode : Mode) where
  abbrev CallResult : Test → Type 0
  CallResult t = (w : Why) → DecidesTruth (test_passes rows mode t w) (GoodFor rows mode t w)

  abbrev Shown : Type 0
  Shown = (t : Test) × CallResult t

  abbrev seen : Shown → Test
  seen e = e.0

  together : (es : List Shown) → map (λ e. test_passes rows mode (seen e)) es ≡ map (test_passes rows mode) (map seen es)
  together [] = refl
  together (e ∷ es) = λ i. test_passes rows mode (seen e) ∷ together es i

  level : (y : Test-F Test) (w : Why) → test_passes_step rows mode (map-Test Test (Why
      → Bool) (test_passes rows mode) y) w ≡ test_passes rows mode (roll-Test y) w
  level y w = λ i. sym (fold-roll-Test (Why → Bool) (test_passes_step rows mode) y) i w

  -- one level: it passes exactly if it is good, if this is so of its children
  lifted : (y : Test-F Test) (w : Why)
      → DecidesTruth (test_passes_step rows mode (map-Test Test (Why → Bool) (test_passes rows mode) y) w) (good_step rows mode Test (λ t. t)
      (GoodFor rows mode) y w)
      → DecidesTruth (test_passes rows mode (roll-Test y) w) (GoodFor rows mode (roll-Test y) w)
  lifted y w t =
      moved (test_passes_step rows mode (map-Test Test (Why → Bool) (test_passes rows mode) y) w) (test_passes rows mode (roll-Test y) w)
      (level y w) (sym (good-level rows mode y w)) t

  rolled : (y : Test-F Shown) → CallResult (roll-Test (map-Test Shown Test seen y))
  rolled (Test-F.Logic operator negate es) = λ w.
      lifted (Test-F.Logic operator negate (map seen es)) w
      (moved (logic_passes (map (λ e. test_passes rows mode (seen e)) es) operator negate (out-Why w))
      (logic_passes (map (test_passes rows mode) (map seen es)) operator negate (out-Why w))
      (ap (λ ps. logic_passes ps operator negate (out-Why w)) (together es))
      (logic-map seen (GoodFor rows mode) operator negate es (out-Why w))
      (logic_decides (λ (e : Shown). GoodFor rows mode (seen e)) (λ (e : Shown). test_passes rows mode (seen e)) (λ e v. e.1 v) operator negate es
      (out-Why w)))
  rolled (Test-F.Fact name) = λ w. lifted (Test-F.Fact name) w (fact_decides rows lawful mode name (out-Why w))
  rolled (Test-F.Check key) = λ w. lifted (Test-F.Check key) w (check_decides rows key (out-Why w))

  pub tested : (t : Test) → CallResult t
  tested = ind-Test CallResult (λ x y is. subst (λ z. CallResult (roll-Test z)) is (rolled y))

-- the result of the test, if the statement of the certificate's id is found
module _ (rows : Rows) (lawful : IsLawful rows) (s : Statement) (w : Why) (o : Option Statement) (found : Some s ≡ o) where
  pub said_to_hold : test_passes rows s.mode s.test w ≡ true → IsFinding rows w o Holds
  said_to_hold passed = subst (λ (o : Option Statement). IsFinding rows w o Holds) found ((tested rows lawful s.mode s.test w).0 passed)

  pub said_to_fail : test_passes rows s.mode s.test w ≡ false → IsFinding rows w o Fails
  said_to_fail failed = subst (λ (o : Option Statement). IsFinding rows w o Fails) found (λ good. true≢false (sym ((tested rows lawful s.mode s.test w).1 good) ∙ failed))
