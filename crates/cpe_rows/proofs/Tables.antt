-- Lemmas: laws of AND and OR of lists, and of negated tests.
use Rattle.std.proofs.Common.{◌≡◌, ◌↔◌, ◌||◌, List, [], ◌∷◌, map, Bool, true, false, cond, refl, ap, sym, ◌∙◌, rules}
use Rattle.std.specs.Bool.{Decides, one_answer}
use Rattle.std.specs.Cmp.{decided}
use Rattle.std.specs.List.{list_any, All, Contains, AllByRecursion}
use Rattle.std.proofs.lemmas.List.Elements.{All-from_recursion, recursion_from_All}
use Rattle.std.proofs.lemmas.Map.Views.{list_any-from_Contains, Contains-from_any}
use Rattle.cpe_name.specs.Eleven.{Values}
use Rattle.cpe_rows.specs.Truth.{same_truth, first_of, not_of}
use Rattle.cpe_rows.specs.Evaluation.{joined, negated, test_truth, test_truth_step}
use Rattle.cpe_rows.specs.Negation.{negation_of}
use Rattle.cpe_rows.specs.declared.truth.Truth.{Truth}
use Rattle.cpe_rows.specs.declared.truth.Truth.TheVariants.{True, False, Error, Unknown}
use Rattle.cpe_rows.specs.declared.test.CheckKey.{CheckKey}
use Rattle.cpe_rows.specs.declared.test.Operator.{Operator}
use Rattle.cpe_rows.specs.declared.test.Operator.TheVariants.{And, Or}
use Rattle.cpe_rows.specs.declared.test.Test.{Test, Logic}
use Rattle.cpe_rows.specs.declared.test.Test.TheFolds.{fold-roll-Test}
use Rattle.cpe_rows.specs.declared.test.Test.TheVariants.{rolls-Logic}
use Rattle.cpe_rows.specs.declared.test.Test.TheOpen.{Test-F}
use Rattle.cpe_rows.proofs.Joined.{pick}

-- ---- the truths of a list

abbrev is_in : Truth → List Truth → Bool
is_in t ts = list_any (same_truth t) ts

same_decides : (t u : Truth) → Decides (same_truth t u) (t ≡ u)
same_decides t u = search rules

is_there : (ts : List Truth) (t : Truth) → Decides (is_in t ts) (Contains ts t)
is_there ts t =
    (Contains-from_any (λ t u. (same_decides t u).0) t ts, list_any-from_Contains (decided same_truth same_decides) t ts)

same_there : (ts us : List Truth) (t : Truth) → Contains ts t ↔ Contains us t → is_in t ts ≡ is_in t us
same_there ts us t h =
    let there = is_there us t in
    one_answer (is_in t ts) (is_in t us) (is_there ts t) (λ e. h.1 (there.0 e), λ k. there.1 (h.0 k))

pub same_first : (order : List Truth) (last : Truth) (ts us : List Truth) → ((t : Truth) → Contains ts t ↔ Contains us t)
    → first_of order last ts ≡ first_of order last us
same_first [] last ts us h = refl
same_first (t ∷ order) last ts us h = λ i. cond (same_there ts us t (h t) i) t (same_first order last ts us h i)

-- ---- deciding truths

false_picked : (f e u : Bool) → (pick False True f e u ≡ False) ↔ (f ≡ true)
false_picked f e u = search rules

true_picked : (t e u : Bool) → (pick True False t e u ≡ True) ↔ (t ≡ true)
true_picked t e u = search rules

pub some_false : (ts : List Truth) → (joined And ts ≡ False) ↔ Contains ts False
some_false ts =
    let there = is_there ts False in
    let picked = false_picked (is_in False ts) (is_in Error ts) (is_in Unknown ts) in
    (λ h. there.0 (picked.0 h), λ k. picked.1 (there.1 k))

pub some_true : (ts : List Truth) → (joined Or ts ≡ True) ↔ Contains ts True
some_true ts =
    let there = is_there ts True in
    let picked = true_picked (is_in True ts) (is_in Error ts) (is_in Unknown ts) in
    (λ h. there.0 (picked.0 h), λ k. picked.1 (there.1 k))

true_parts : (t : Truth) (f e u : Bool)
    → pick False True (same_truth False t || f) (same_truth Error t || e) (same_truth Unknown t || u) ≡ True
    → (t ≡ True) × (pick False True f e u ≡ True)
true_parts t f e u h = search rules

false_parts : (t : Truth) (f e u : Bool)
    → pick True False (same_truth True t || f) (same_truth Error t || e) (same_truth Unknown t || u) ≡ False
    → (t ≡ False) × (pick True False f e u ≡ False)
false_parts t f e u h = search rules

-- If the joined truth is the neutral truth, then each joined part is the neutral truth.
parts : (o : Operator) (t : Truth) (ts : List Truth) → joined o (t ∷ ts) ≡ joined o []
    → (t ≡ joined o []) × (joined o ts ≡ joined o [])
parts And t ts h = true_parts t (is_in False ts) (is_in Error ts) (is_in Unknown ts) h
parts Or t ts h = false_parts t (is_in True ts) (is_in Error ts) (is_in Unknown ts) h

each_neutral : (o : Operator) (ts : List Truth) → joined o ts ≡ joined o [] → AllByRecursion (λ t. t ≡ joined o []) ts
each_neutral o [] h = tt
each_neutral o (t ∷ ts) h = let both = parts o t ts h in (both.0, each_neutral o ts both.1)

from_neutral : (o : Operator) (ts : List Truth) → AllByRecursion (λ t. t ≡ joined o []) ts → joined o ts ≡ joined o []
from_neutral And [] h = refl
from_neutral Or [] h = refl
from_neutral And (t ∷ ts) h = ap (λ u. joined And (u ∷ ts)) h.0 ∙ from_neutral And ts h.1
from_neutral Or (t ∷ ts) h = ap (λ u. joined Or (u ∷ ts)) h.0 ∙ from_neutral Or ts h.1

pub all_neutral : (o : Operator) (ts : List Truth) → (joined o ts ≡ joined o []) ↔ All (λ t. t ≡ joined o []) ts
all_neutral o ts = (
  λ h. All-from_recursion (λ t. t ≡ joined o []) ts (each_neutral o ts h),
  λ k. from_neutral o ts (recursion_from_All (λ t. t ≡ joined o []) ts k),
)

-- ---- negation: the first truth of an order, negated, is the first truth of the negated order

same_negated : (t u : Truth) → same_truth t u ≡ same_truth (not_of t) (not_of u)
same_negated t u = search rules

any_negated : (t : Truth) (ts : List Truth) → is_in t ts ≡ is_in (not_of t) (map not_of ts)
any_negated t [] = refl
any_negated t (u ∷ us) = λ i. same_negated t u i || any_negated t us i

not_first : (order : List Truth) (last : Truth) (ts : List Truth)
    → not_of (first_of order last ts) ≡ first_of (map not_of order) (not_of last) (map not_of ts)
not_first [] last ts = refl
not_first (t ∷ order) last ts =
    not_cond (is_in t ts) (first_of order last ts)
    ∙ (λ i. cond (any_negated t ts i) (not_of t) (not_first order last ts i)) where
      not_cond : (b : Bool) (r : Truth) → not_of (cond b t r) ≡ cond b (not_of t) (not_of r)
      not_cond true r = refl
      not_cond false r = refl

pub not_and : (ts : List Truth) → not_of (joined And ts) ≡ joined Or (map not_of ts)
not_and = not_first (False ∷ Error ∷ Unknown ∷ []) True

pub not_or : (ts : List Truth) → not_of (joined Or ts) ≡ joined And (map not_of ts)
not_or = not_first (True ∷ Error ∷ Unknown ∷ []) False

-- ---- negated tests

alone : (o : Operator) (t : Truth) → joined o (t ∷ []) ≡ t
alone o t = search rules

not_twice : (t : Truth) → not_of (not_of t) ≡ t
not_twice t = search rules

module _ (fact : Values → Truth) (check : CheckKey → Truth) where
  truth-logic : (o : Operator) (negate : Bool) (of : List Test)
      → test_truth fact check (Logic o negate of) ≡ negated negate (joined o (map (test_truth fact check) of))
  truth-logic o negate of =
      ap (test_truth fact check) (sym (rolls-Logic o negate of))
      ∙ fold-roll-Test Truth (test_truth_step fact check) (Test-F.Logic o negate of)

  pub once : (o : Operator) (t : Test) → test_truth fact check (negation_of o t) ≡ not_of (test_truth fact check t)
  once o t = truth-logic o true (t ∷ []) ∙ ap not_of (alone o (test_truth fact check t))

  pub twice : (o p : Operator) (t : Test) → test_truth fact check (negation_of o (negation_of p t)) ≡ test_truth fact check t
  twice o p t = once o (negation_of p t) ∙ (ap not_of (once p t) ∙ not_twice (test_truth fact check t))

  each_once : (o : Operator) (of : List Test)
      → map not_of (map (test_truth fact check) of) ≡ map (test_truth fact check) (map (negation_of o) of)
  each_once o [] = refl
  each_once o (t ∷ of) = λ i. sym (once o t) i ∷ each_once o of i

  pub inward : (j k o : Operator) (of : List Test) → ((ts : List Truth) → not_of (joined j ts) ≡ joined k (map not_of ts))
      → test_truth fact check (Logic j true of) ≡ test_truth fact check (Logic k false (map (negation_of o) of))
  inward j k o of swap =
      truth-logic j true of
      ∙ (swap (map (test_truth fact check) of)
      ∙ (ap (joined k) (each_once o of) ∙ sym (truth-logic k false (map (negation_of o) of))))
