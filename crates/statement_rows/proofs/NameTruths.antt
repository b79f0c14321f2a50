-- The truth of a test by the truths of its facts, read one after the other, is its truth by the truths of their names.
use Rattle.std.proofs.Common.{◌≡◌, List, [], ◌∷◌, ◌++◌, map, refl, ap, sym, ◌∙◌, subst}
use Rattle.std.specs.List.{flat_map}
use Rattle.std.proofs.lemmas.List.{append-nil, append_assoc, map-append}
use Rattle.std.proofs.lemmas.List.Folds.{flat_map-map}
use Rattle.cpe_rows.specs.cpe_name.Eleven.{Values}
use Rattle.cpe_rows.specs.Evaluation.{joined, negated, test_truth, test_truth_step}
use Rattle.cpe_rows.specs.FactNames.{fact_names, fact_names_step}
use Rattle.cpe_rows.specs.declared.truth.Truth.{Truth}
use Rattle.cpe_rows.specs.declared.test.CheckKey.{CheckKey}
use Rattle.cpe_rows.specs.declared.test.Test.{Test}
use Rattle.cpe_rows.specs.declared.test.Test.TheOpen.{Test-F}
use Rattle.cpe_rows.specs.declared.test.Test.TheViews.{roll-Test}
use Rattle.cpe_rows.specs.declared.test.Test.TheFolds.{fold-roll-Test, ind-Test, map-Test}
use Rattle.statement_rows.specs.Readings.{TruthReading, reading, reading_step, truths_along}

map_both : {X Y : Type 0} (f : X → Y) (xs ys : List X) (zs : List Y) → map f (xs ++ ys) ++ zs ≡ map f xs ++ (map f ys ++ zs)
map_both f xs ys zs = ap (λ us. us ++ zs) (map-append f xs ys) ∙ append_assoc (map f xs) (map f ys) zs

module _ (fact : Values → Truth) (check : CheckKey → Truth) where
  abbrev Reads : Test → Type 0
  Reads t = (ts : List Truth) → ◌≡◌ {A = Truth × List Truth} (reading check t (map fact (fact_names t) ++ ts)) (test_truth fact check t, ts)

  abbrev Shown : Type 0
  Shown = (t : Test) × Reads t

  abbrev tests : List Shown → List Test
  tests es = map (λ (e : Shown). e.0) es

  along : (r : TruthReading) (rs : List TruthReading) (us vs ws : List Truth) (t : Truth) (all : List Truth) → ◌≡◌ {A = Truth × List Truth} (r us) (t, vs)
      → ◌≡◌ {A = List Truth × List Truth} (truths_along rs vs) (all, ws) → ◌≡◌ {A = List Truth × List Truth} (truths_along (r ∷ rs) us) (t ∷ all, ws)
  along r rs us vs ws t all h k =
      let rest = ap (λ (x : Truth × List Truth). truths_along rs x.1) h ∙ k in
      λ i. ((h i).0 ∷ (rest i).0, (rest i).1)

  all_read : (es : List Shown) (ts : List Truth)
      → ◌≡◌ {A = List Truth × List Truth} (truths_along (map (reading check) (tests es)) (map fact (flat_map fact_names (tests es)) ++ ts)) (map (test_truth fact check) (tests es), ts)
  all_read [] ts = refl
  all_read (e ∷ es) ts =
      ap (truths_along (map (reading check) (tests (e ∷ es)))) (map_both fact (fact_names e.0) (flat_map fact_names (tests es)) ts)
      ∙ along (reading check e.0) (map (reading check) (tests es)) (map fact (fact_names e.0) ++ (map fact (flat_map fact_names (tests es)) ++ ts)) (map fact (flat_map fact_names (tests es)) ++ ts) ts
      (test_truth fact check e.0) (map (test_truth fact check) (tests es)) (e.1 (map fact (flat_map fact_names (tests es)) ++ ts)) (all_read es ts)

  level : (y : Test-F Test) (us : List Truth) → reading check (roll-Test y) us ≡ reading_step check (map-Test Test TruthReading (reading check) y) us
  level y us = ap (λ (r : TruthReading). r us) (fold-roll-Test TruthReading (reading_step check) y)

  names_level : (y : Test-F Test) → fact_names (roll-Test y) ≡ fact_names_step (map-Test Test (List Values) fact_names y)
  names_level y = fold-roll-Test (List Values) fact_names_step y

  truth_level : (y : Test-F Test) → test_truth fact check (roll-Test y) ≡ test_truth_step fact check (map-Test Test Truth (test_truth fact check) y)
  truth_level y = fold-roll-Test Truth (test_truth_step fact check) y

  rolled : (y : Test-F Shown) → Reads (roll-Test (map-Test Shown Test (λ e. e.0) y))
  rolled (Test-F.Logic o negate es) = λ ts.
      let y : Test-F Test = Test-F.Logic o negate (tests es) in
      let names = names_level y ∙ flat_map-map (λ (ns : List Values). ns) fact_names (tests es) in
      ap (λ (ns : List Values). reading check (roll-Test y) (map fact ns ++ ts)) names
      ∙ (level y (map fact (flat_map fact_names (tests es)) ++ ts)
      ∙ (ap (λ (r : List Truth × List Truth). (negated negate (joined o r.0), r.1)) (all_read es ts) ∙ ap (λ (t : Truth). (t, ts)) (sym (truth_level y))))
  rolled (Test-F.Fact name) = λ ts.
      let y : Test-F Test = Test-F.Fact name in
      ap (λ (ns : List Values). reading check (roll-Test y) (map fact ns ++ ts)) (names_level y)
      ∙ (level y (fact name ∷ ts) ∙ ap (λ (t : Truth). (t, ts)) (sym (truth_level y)))
  rolled (Test-F.Check key) = λ ts.
      let y : Test-F Test = Test-F.Check key in
      ap (λ (ns : List Values). reading check (roll-Test y) (map fact ns ++ ts)) (names_level y)
      ∙ (level y ts ∙ ap (λ (t : Truth). (t, ts)) (sym (truth_level y)))

  reads : (t : Test) → Reads t
  reads = ind-Test Reads (λ x y is. subst (λ z. Reads (roll-Test z)) is (rolled y))

  pub reading_named : (t : Test) (ts : List Truth) → map fact (fact_names t) ≡ ts → (reading check t ts).0 ≡ test_truth fact check t
  reading_named t ts h =
      ap (λ (us : List Truth). (reading check t us).0) (sym h ∙ sym (append-nil (map fact (fact_names t))))
      ∙ ap (λ (r : Truth × List Truth). r.0) (reads t [])
