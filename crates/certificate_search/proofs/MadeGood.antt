-- Lemmas: the certificate of a statement has the statement's verdict, and is good.
use Rattle.std.proofs.Common.{◌≡◌, ◌-◌, ℕ, List, [], ◌∷◌, ◌++◌, Bool, Option, Some, None, map, filter, flat_map, is_some, length, replicate, slice_get, refl, ap, sym, ◌∙◌, subst, inl, inr}
use Rattle.std.specs.List.{position_or_len}
use Rattle.cpe_rows.specs.cpe_name.Eleven.{Values}
use Rattle.cpe_rows.specs.cpe_relation.NameRelation.{covers}
use Rattle.cpe_rows.specs.cpe_relation.Maybe.{maybe}
use Rattle.cpe_rows.specs.Reach.{Among}
use Rattle.cpe_rows.specs.Rows.{Rows}
use Rattle.cpe_rows.specs.Chains.{ends}
use Rattle.cpe_rows.specs.Lawful.{IsLawful}
use Rattle.cpe_rows.specs.Evaluation.{joined, negated, test_truth, test_truth_step}
use Rattle.cpe_rows.specs.Truth.{same_truth}
use Rattle.cpe_rows.specs.Verdict.{truth, fact_truth, check_truth}
use Rattle.cpe_rows.specs.declared.entry.Entry.{Entry}
use Rattle.cpe_rows.specs.declared.truth.Truth.{Truth}
use Rattle.cpe_rows.specs.declared.truth.Truth.TheVariants.{True, False, Unknown}
use Rattle.cpe_rows.specs.declared.statement.Mode.{Mode}
use Rattle.cpe_rows.specs.declared.test.CheckKey.{CheckKey}
use Rattle.cpe_rows.specs.declared.test.Operator.{Operator}
use Rattle.cpe_rows.specs.declared.test.Test.{Test, roll-Test}
use Rattle.cpe_rows.specs.declared.test.Test as test
use Rattle.cpe_rows.specs.declared.test.Test.TheOpen.{Test-F}
use Rattle.cpe_rows.specs.declared.test.Test.TheFolds.{fold-roll-Test, ind-Test, map-Test}
use Rattle.cpe_rows.specs.declared.test.Test.TheVariants as tests
use Rattle.cpe_rows.proofs.Paths.{was_kept}
use Rattle.certificate_check.specs.Certificates.{given_truth, given_truths}
use Rattle.certificate_check.specs.Good.{deciding, GoodLogic, HasTraces, GoodFact, GoodCheck, good_step, GoodFor}
use Rattle.certificate_check.specs.Leading.{followed}
use Rattle.certificate_check.specs.declared.certificate.Why.{Why, out-Why}
use Rattle.certificate_check.specs.declared.certificate.Why as why
use Rattle.certificate_check.specs.declared.certificate.Why.TheOpen.{Why-F}
use Rattle.certificate_check.specs.declared.certificate.Why.TheVariants as whys
use Rattle.certificate_check.proofs.Elements.{present}
use Rattle.certificate_check.proofs.Facts.{fact_is}
use Rattle.certificate_check.proofs.Given.{given-logic, given-pair, given-plain}
use Rattle.certificate_check.proofs.GoodLevels.{good-level, logic-map}
use Rattle.certificate_search.specs.Choices.{Fit, fits_at, fits, first_fit, trace_to, why_by_fits, fact_why, explained_step, why_of, chosen}
use Rattle.certificate_search.specs.Laws.{CertificatesGiveVerdicts, CertificatesAreGood}
use Rattle.certificate_search.proofs.FirstFits.{some_fit_is}
use Rattle.certificate_search.proofs.Chosen.{chosen_all, chosen_good, chosen_one, joined_all, joined_one}
use Rattle.certificate_search.proofs.Ways.{good_trace}

-- ---- levels of a certificate

pub why-logic : (rows : Rows) (mode : Mode) (operator : Operator) (negate : Bool) (of : List Test)
    → why_of rows mode (test.Logic operator negate of)
    ≡ why.Logic (negated negate (joined operator (map given_truth (map (why_of rows mode) of)))) (chosen operator (map (why_of rows mode) of))
why-logic rows mode operator negate of =
    ap (why_of rows mode) (sym (tests.rolls-Logic operator negate of)) ∙ fold-roll-Test Why (explained_step rows mode) (Test-F.Logic operator negate of)

pub why-fact : (rows : Rows) (mode : Mode) (name : Values) → why_of rows mode (test.Fact name) ≡ fact_why rows mode name
why-fact rows mode name =
    ap (why_of rows mode) (sym (tests.rolls-Fact name)) ∙ fold-roll-Test Why (explained_step rows mode) (Test-F.Fact name)

pub why-check : (rows : Rows) (mode : Mode) (key : CheckKey) → why_of rows mode (test.Check key) ≡ why.Plain (check_truth rows key)
why-check rows mode key =
    ap (why_of rows mode) (sym (tests.rolls-Check key)) ∙ fold-roll-Test Why (explained_step rows mode) (Test-F.Check key)

-- ---- elements

among_map : {A B : Type 0} (f : A → B) (xs : List A) (y : B) → Among (map f xs) y → (x : A) × Among xs x × (f x ≡ y)
among_map f [] y m = absurd m
among_map f (x ∷ xs) y (inl e) = (x, inl refl, e)
among_map f (x ∷ xs) y (inr m) = let rest = among_map f xs y m in (rest.0, inr rest.1, rest.2)

among_all : {A B : Type 0} (f : A → List B) (xs : List A) (y : B) → Among (flat_map f xs) y → (x : A) × Among xs x × Among (f x) y
among_all f [] y m = absurd m
among_all {A} {B} f (x ∷ xs) y m = go (f x) (λ k. k) m (among_all f xs y) where
  go : (ys : List B) → (Among ys y → Among (f x) y) → Among (ys ++ flat_map f xs) y
      → (Among (flat_map f xs) y → (a : A) × Among xs a × Among (f a) y) → (a : A) × Among (x ∷ xs) a × Among (f a) y
  go [] here k later = let rest = later k in (rest.0, inr rest.1, rest.2)
  go (z ∷ zs) here (inl e) later = (x, inl refl, here (inl e))
  go (z ∷ zs) here (inr k) later = go zs (λ h. here (inr h)) k later

module _ (rows : Rows) (mode : Mode) where
  abbrev es : List Entry
  es = followed rows mode

  abbrev first : (Values → Values → Bool) → Values → Option Fit
  first relates name = first_fit relates es rows.items name

  -- ---- the truth

  why-given : (name : Values) (o p : Option Fit) → given_truth (why_by_fits es name o p) ≡ truth (is_some o) (is_some p)
  why-given name (Some fit) p = given-pair True (trace_to es fit.fact_end name) (trace_to es fit.item_end fit.item)
  why-given name None (Some fit) = given-pair Unknown (trace_to es fit.fact_end name) (trace_to es fit.item_end fit.item)
  why-given name None None = given-plain False

  firsts_decide : (name : Values) → truth (is_some (first covers name)) (is_some (first maybe name)) ≡ fact_truth rows mode name
  firsts_decide name =
      (λ j. truth (some_fit_is covers es name rows.items j) (some_fit_is maybe es name rows.items j)) ∙ sym (fact_is rows mode name)

  fact-given : (name : Values) → given_truth (fact_why rows mode name) ≡ fact_truth rows mode name
  fact-given name = why-given name (first covers name) (first maybe name) ∙ firsts_decide name

  abbrev found : Test → Truth
  found = test_truth (fact_truth rows mode) (check_truth rows)

  abbrev Gives : Test → Type 0
  Gives t = given_truth (why_of rows mode t) ≡ found t

  abbrev Shown : Type 0
  Shown = (t : Test) × Gives t

  abbrev seen : Shown → Test
  seen e = e.0

  together : (xs : List Shown) → map given_truth (map (why_of rows mode) (map seen xs)) ≡ map found (map seen xs)
  together [] = refl
  together (e ∷ xs) = λ i. e.1 i ∷ together xs i

  why-level : (y : Test-F Test) → why_of rows mode (roll-Test y) ≡ explained_step rows mode (map-Test Test Why (why_of rows mode) y)
  why-level y = fold-roll-Test Why (explained_step rows mode) y

  truth-level : (y : Test-F Test) → test_truth_step (fact_truth rows mode) (check_truth rows) (map-Test Test Truth found y) ≡ found (roll-Test y)
  truth-level y = sym (fold-roll-Test Truth (test_truth_step (fact_truth rows mode) (check_truth rows)) y)

  rolled : (y : Test-F Shown) → Gives (roll-Test (map-Test Shown Test seen y))
  rolled (Test-F.Logic operator negate xs) =
      ap given_truth (why-level (Test-F.Logic operator negate (map seen xs)))
      ∙ (given-logic (negated negate (joined operator (map given_truth (map (why_of rows mode) (map seen xs))))) (chosen operator (map
      (why_of rows mode) (map seen xs)))
      ∙ (ap (λ ts. negated negate (joined operator ts)) (together xs)
      ∙ truth-level (Test-F.Logic operator negate (map seen xs))))
  rolled (Test-F.Fact name) = ap given_truth (why-level (Test-F.Fact name)) ∙ (fact-given name ∙ truth-level (Test-F.Fact name))
  rolled (Test-F.Check key) =
      ap given_truth (why-level (Test-F.Check key)) ∙ (given-plain (check_truth rows key) ∙ truth-level (Test-F.Check key))

  pub gives : (t : Test) → Gives t
  gives = ind-Test Gives (λ x y is. subst (λ z. Gives (roll-Test z)) is (rolled y))

  -- ---- a logical test, by the place of the first child that decides

  module _ (operator : Operator) (negate : Bool) (of : List Test) (place : ℕ) (here : place ≡ position_or_len (λ x. same_truth (deciding operator) (found x)) of) (t : Truth) (given : List (Option Why)) where
    abbrev reports : (x : Test) → same_truth (deciding operator) (given_truth (why_of rows mode x)) ≡ same_truth (deciding operator) (found x)
    reports x = ap (same_truth (deciding operator)) (gives x)

    pub one_decides : (child : Test) → slice_get of place ≡ Some child → t ≡ negated negate (deciding operator)
        → given ≡ replicate place None ++ (Some (why_of rows mode child) ∷ replicate (length of - place - 1) None)
        → why.Logic t given ≡ why_of rows mode (test.Logic operator negate of)
    one_decides child at truth_is given_is =
        let joins = truth_is ∙ ap (negated negate) (sym (joined_one operator (why_of rows mode) (λ x. same_truth (deciding operator) (found x)) reports of place child here at)) in
        let chooses = given_is ∙ sym (chosen_one operator (why_of rows mode) (λ x. same_truth (deciding operator) (found x)) reports of place child here at) in
        (λ i. why.Logic (joins i) (chooses i)) ∙ sym (why-logic rows mode operator negate of)

    pub none_decides : slice_get of place ≡ None → t ≡ negated negate (joined operator (given_truths given)) → given ≡ map Some (map (why_of rows mode) of)
        → why.Logic t given ≡ why_of rows mode (test.Logic operator negate of)
    none_decides none truth_is all =
        let joins = truth_is ∙ ap (negated negate) (ap (λ (ws : List (Option Why)). joined operator (given_truths ws)) all ∙ joined_all operator (why_of rows mode) (λ x. same_truth (deciding operator) (found x)) reports of) in
        let chooses = all ∙ sym (chosen_all operator (why_of rows mode) (λ x. same_truth (deciding operator) (found x)) reports of place here none) in
        (λ i. why.Logic (joins i) (chooses i)) ∙ sym (why-logic rows mode operator negate of)

  -- ---- the certificate is good

  module _ (lawful : IsLawful rows) where
    fit_shown : (relates : Values → Values → Bool) (name : Values) (fit : Fit) → Among (fits relates es rows.items name) fit
        → HasTraces relates rows mode name (trace_to es fit.fact_end name) (trace_to es fit.item_end fit.item)
    fit_shown relates name fit m =
        let one = among_all (λ i. flat_map (fits_at relates (ends es name) i) (ends es i)) rows.items fit m in
        let two = among_all (fits_at relates (ends es name) one.0) (ends es one.0) fit one.2 in
        let three = among_map (λ (f : Values). record { item = one.0; item_end = two.0; fact_end = f }) (filter (λ f. relates f two.0) (ends es name))
        fit two.2 in
        let kept = was_kept (λ f. relates f two.0) (ends es name) three.0 three.1 in
        subst (λ (x : Fit). HasTraces relates rows mode name (trace_to es x.fact_end name) (trace_to es x.item_end x.item)) three.2
        (let of_fact = good_trace rows lawful three.0 name mode kept.0 in
        let of_item = good_trace rows lawful two.0 one.0 mode two.1 in
        record {
          start = one.0;
          fact_end = three.0;
          item_end = two.0;
          is_item = one.1;
          fact_trace = of_fact.0;
          item_trace = of_item.0;
          fact_ends = of_fact.1;
          item_ends = of_item.1;
          related = kept.1;
        })

    fact-good : (name : Values) → GoodFact rows mode name (out-Why (fact_why rows mode name))
    fact-good name = go (first covers name) (first maybe name) refl refl where
      decided : (o p : Option Fit) → first covers name ≡ o → first maybe name ≡ p → fact_truth rows mode name ≡ truth (is_some o) (is_some p)
      decided o p e f = sym (firsts_decide name) ∙ (λ j. truth (is_some (e j)) (is_some (f j)))

      go : (o p : Option Fit) → first covers name ≡ o → first maybe name ≡ p → GoodFact rows mode name (out-Why (why_by_fits es name o p))
      go (Some fit) p e f =
          subst (GoodFact rows mode name) (sym (whys.outs-Pair True (trace_to es fit.fact_end name) (trace_to es fit.item_end fit.item)))
          (fit_shown covers name fit (present (fits covers es rows.items name) 0 fit e))
      go None (Some fit) e f =
          subst (GoodFact rows mode name) (sym (whys.outs-Pair Unknown (trace_to es fit.fact_end name) (trace_to es fit.item_end fit.item))) (
            fit_shown maybe name fit (present (fits maybe es rows.items name) 0 fit f),
            λ t. let clash : Unknown ≡ True = sym (decided None (Some fit) e f) ∙ t in let w : ⊥ = cc in w,
          )
      go None None e f = subst (GoodFact rows mode name) (sym (whys.outs-Plain False)) (refl, decided None None e f)

    abbrev made : Test → Why
    made = why_of rows mode

    abbrev IsGood : Test → Type 0
    IsGood t = GoodFor rows mode t (made t)

    abbrev GoodOne : Type 0
    GoodOne = (t : Test) × IsGood t

    abbrev test_of : GoodOne → Test
    test_of e = e.0

    made_together : (xs : List GoodOne) → map (λ e. made (test_of e)) xs ≡ map made (map test_of xs)
    made_together [] = refl
    made_together (e ∷ xs) = ap (λ ws. made (test_of e) ∷ ws) (made_together xs)

    lifted : (y : Test-F Test) → good_step rows mode Test (λ t. t) (GoodFor rows mode) y (explained_step rows mode (map-Test Test Why made y))
        → IsGood (roll-Test y)
    lifted y g =
        subst (GoodFor rows mode (roll-Test y)) (sym (why-level y))
        (subst (λ (G : Type 0). G) (sym (good-level rows mode y (explained_step rows mode (map-Test Test Why made y)))) g)

    logic_good : (operator : Operator) (negate : Bool) (xs : List GoodOne)
        → GoodLogic (GoodFor rows mode) operator negate (map test_of xs)
        (out-Why (why.Logic (negated negate (joined operator (map given_truth (map made (map test_of xs))))) (chosen operator (map made (map test_of xs)))))
    logic_good operator negate xs =
        let of = chosen_good (λ (e : GoodOne) w. GoodFor rows mode (test_of e) w) (λ e. made (test_of e)) (λ e. e.1) operator negate xs in
        let at = λ (ws : List Why). Why-F.Logic (negated negate (joined operator (map given_truth ws))) (chosen operator ws) in
        subst (GoodLogic (GoodFor rows mode) operator negate (map test_of xs))
        (ap at (made_together xs)
        ∙ sym (whys.outs-Logic (negated negate (joined operator (map given_truth (map made (map test_of xs))))) (chosen operator (map made (map test_of xs)))))
        (subst (λ (G : Type 0). G)
        (logic-map test_of (GoodFor rows mode) operator negate xs (at (map (λ e. made (test_of e)) xs))) of)

    good_rolled : (y : Test-F GoodOne) → IsGood (roll-Test (map-Test GoodOne Test test_of y))
    good_rolled (Test-F.Logic operator negate xs) = lifted (Test-F.Logic operator negate (map test_of xs)) (logic_good operator negate xs)
    good_rolled (Test-F.Fact name) = lifted (Test-F.Fact name) (fact-good name)
    good_rolled (Test-F.Check key) = lifted (Test-F.Check key) (subst (GoodCheck rows key) (sym (whys.outs-Plain (check_truth rows key))) refl)

    pub good : (t : Test) → IsGood t
    good = ind-Test IsGood (λ x y is. subst (λ z. IsGood (roll-Test z)) is (good_rolled y))

pub verdicts_given : CertificatesGiveVerdicts
verdicts_given rows s = gives rows s.mode s.test

pub certificates_good : CertificatesAreGood
certificates_good rows lawful s = good rows s.mode lawful s.test
