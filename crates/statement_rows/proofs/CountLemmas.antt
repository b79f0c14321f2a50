-- How many fact references statements have.
use Rattle.std.proofs.Common.{◌≡◌, ℕ, zero, suc, ◌+◌, ◌-◌, ◌≤◌, ◌^◌, false, List, [], ◌∷◌, ◌++◌, length, min, ap, ◌∙◌, arith}
use Rattle.std.specs.Prelude.{nat_lt, slice_get, Some}
use Rattle.std.specs.List.{flat_map}
use Rattle.std.proofs.lemmas.List.{length-append}
use Rattle.std.proofs.lemmas.Bool.Decides.{nat_tests}
use Rattle.cpe_rows.specs.cpe_name.Eleven.{Values}
use Rattle.cpe_rows.specs.FactNames.{fact_names, number_of_facts}
use Rattle.cpe_rows.specs.Limits.{most}
use Rattle.cpe_rows.specs.declared.fault.Which.TheVariants.{Facts}
use Rattle.cpe_rows.specs.declared.statement.Statement.{Statement}
use Rattle.check_results.specs.Kept.{IsCounted}
use Rattle.statement_rows.proofs.TakeLemmas.{first_place_gone, next_place, removed}

abbrev pub facts_in : Statement → List Values
facts_in s = fact_names s.test

pub facts-last : (ss : List Statement) (s : Statement) → number_of_facts (ss ++ s ∷ []) ≡ number_of_facts ss + length (facts_in s)
facts-last [] s = length-append (facts_in s) [] ∙ (omega arith)
facts-last (t ∷ ss) s =
    let more = facts-last ss s in
    let here = length-append (facts_in t) (flat_map facts_in (ss ++ s ∷ [])) in
    let before = length-append (facts_in t) (flat_map facts_in ss) in
    grind arith

pub counted_last : (n m : ℕ) (ss ts : List Statement) (s : Statement) → ts ≡ ss ++ s ∷ [] → IsCounted n ss
    → m ≡ min (n + length (fact_names s.test)) (2 ^ 64 - 1) → nat_lt (most Facts) (number_of_facts (ss ++ s ∷ [])) ≡ false → IsCounted m ts
counted_last n m ss ts s e h count room =
    let more = facts-last ss s in
    let same = ap number_of_facts e in
    let own = h.0 in (
      grind (arith, nat_tests),
      grind (arith, nat_tests),
    )

-- ---- without one statement

facts-removed : (ss : List Statement) (k : ℕ) (s : Statement) → slice_get ss k ≡ Some s → number_of_facts (removed k ss) + length (facts_in s) ≡ number_of_facts ss
facts-removed [] k s h = let wrong : ⊥ = cc in absurd wrong
facts-removed (t ∷ ss) zero s h =
    let same : t ≡ s = cc in
    let left = ap number_of_facts (first_place_gone t ss) in
    let here = length-append (facts_in t) (flat_map facts_in ss) in
    let one = ap (λ u. length (facts_in u)) same in
    grind arith
facts-removed (t ∷ ss) (suc k) s h =
    let rest = facts-removed ss k s h in
    let left = ap number_of_facts (next_place t k ss) in
    let here = length-append (facts_in t) (flat_map facts_in ss) in
    let after = length-append (facts_in t) (flat_map facts_in (removed k ss)) in
    grind arith

pub few_gone : (n m k : ℕ) (ss : List Statement) (s : Statement) → slice_get ss k ≡ Some s → IsCounted n ss → m ≡ min (0 + length (fact_names s.test)) (2 ^ 64 - 1) → m ≤ n
few_gone n m k ss s at h count =
    let left = facts-removed ss k s at in
    let own = h.0 in
    grind arith

pub counted_gone : (n m k : ℕ) (ss ts : List Statement) (s : Statement) → ts ≡ removed k ss → slice_get ss k ≡ Some s → IsCounted n ss → m ≡ min (0 + length (fact_names s.test)) (2 ^ 64 - 1)
    → IsCounted (n - m) ts
counted_gone n m k ss ts s e at h count =
    let left = facts-removed ss k s at in
    let same = ap number_of_facts e in
    let own = h.0 in
    let few = h.1 in (
      grind arith,
      grind arith,
    )
