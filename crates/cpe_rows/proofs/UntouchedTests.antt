-- Lemmas: a test keeps its truth if none of its facts and checks is touched.
use Rattle.std.proofs.Common.{◌≡◌, List, [], ◌∷◌, Bool, false, map, refl, ap, sym, ◌∙◌, subst}
use Rattle.std.specs.List.{list_any}
use Rattle.std.proofs.lemmas.Bool.{or_parts}
use Rattle.cpe_name.specs.Eleven.{Values}
use Rattle.cpe_rows.specs.Evaluation.{joined, negated, test_truth, test_truth_step}
use Rattle.cpe_rows.specs.declared.truth.Truth.{Truth}
use Rattle.cpe_rows.specs.declared.test.CheckKey.{CheckKey}
use Rattle.cpe_rows.specs.declared.test.Test.{Test}
use Rattle.cpe_rows.specs.declared.test.Test.TheOpen.{Test-F}
use Rattle.cpe_rows.specs.declared.test.Test.TheViews.{roll-Test}
use Rattle.cpe_rows.specs.declared.test.Test.TheFolds.{fold-roll-Test, ind-Test, map-Test}
use Rattle.cpe_rows.specs.Touching.{test_touches, touches_step}

module _ (fact fact1 : Values → Truth) (check check1 : CheckKey → Truth) (p : Values → Bool) (q : CheckKey → Bool)
    (facts : (n : Values) → p n ≡ false → fact n ≡ fact1 n) (checks : (k : CheckKey) → q k ≡ false → check k ≡ check1 k) where
  abbrev Stays : Test → Type 0
  Stays t = test_touches p q t ≡ false → test_truth fact check t ≡ test_truth fact1 check1 t

  abbrev Shown : Type 0
  Shown = (t : Test) × Stays t

  all_stay : (es : List Shown) → list_any (λ touched. touched) (map (test_touches p q) (map (λ (e : Shown). e.0) es)) ≡ false
      → map (test_truth fact check) (map (λ (e : Shown). e.0) es) ≡ map (test_truth fact1 check1) (map (λ (e : Shown). e.0) es)
  all_stay [] h = refl
  all_stay (e ∷ es) h =
      let parts = or_parts (test_touches p q e.0) (list_any (λ touched. touched) (map (test_touches p q) (map (λ (e : Shown). e.0) es))) h in
      λ i. e.1 parts.0 i ∷ all_stay es parts.1 i

  -- Whether a test is touched follows from its children.
  level : (y : Test-F Test) → touches_step p q (map-Test Test Bool (test_touches p q) y) ≡ test_touches p q (roll-Test y)
  level y = sym (fold-roll-Test Bool (touches_step p q) y)

  rolled : (y : Test-F Shown) → Stays (roll-Test (map-Test Shown Test (λ e. e.0) y))
  rolled (Test-F.Logic o negate es) = λ h.
      let y : Test-F Test = Test-F.Logic o negate (map (λ (e : Shown). e.0) es) in
      fold-roll-Test Truth (test_truth_step fact check) y
      ∙ (ap (λ ts. negated negate (joined o ts)) (all_stay es (level y ∙ h)) ∙ sym (fold-roll-Test Truth (test_truth_step fact1 check1) y))
  rolled (Test-F.Fact name) = λ h.
      fold-roll-Test Truth (test_truth_step fact check) (Test-F.Fact name)
      ∙ (facts name (level (Test-F.Fact name) ∙ h) ∙ sym (fold-roll-Test Truth (test_truth_step fact1 check1) (Test-F.Fact name)))
  rolled (Test-F.Check key) = λ h.
      fold-roll-Test Truth (test_truth_step fact check) (Test-F.Check key)
      ∙ (checks key (level (Test-F.Check key) ∙ h) ∙ sym (fold-roll-Test Truth (test_truth_step fact1 check1) (Test-F.Check key)))

  pub stays : (t : Test) → Stays t
  stays = ind-Test Stays (λ x y is. subst (λ z. Stays (roll-Test z)) is (rolled y))
