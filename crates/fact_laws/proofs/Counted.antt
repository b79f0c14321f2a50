-- Lemmas: how often a fact is in the list of the facts of all statements.
use Rattle.std.proofs.Common.{◌≡◌, ◌≤◌, ℕ, ◌+◌, Bool, true, false, not, cond, ◌&&◌, ◌||◌, List, [], ◌∷◌, ◌++◌, refl, sym, ap, ◌∙◌, arith}
use Rattle.std.specs.Prelude.{filter}
use Rattle.std.specs.List.{list_any, sum_by}
use Rattle.std.proofs.lemmas.Bool.{true≢false}
use Rattle.std.proofs.lemmas.List.Folds.{list_any-append}
use Rattle.cpe_rows.specs.cpe_name.Eleven.{Values}
use Rattle.cpe_rows.specs.cpe_name.Equal.{same_name, same_name-Decides}
use Rattle.cpe_rows.specs.FactNames.{fact_names}
use Rattle.cpe_rows.specs.Names.{is_same}
use Rattle.cpe_rows.specs.declared.statement.Mode.{Mode}
use Rattle.cpe_rows.specs.declared.statement.Statement.{Statement}
use Rattle.name_index.specs.Elements.{SameElements}
use Rattle.name_index.proofs.Sums.{one_at_most, sum_passing}
use Rattle.fact_laws.specs.Shown.{different, one_if_some, times_named}
use Rattle.fact_laws.proofs.Different.{counts_same, less_different, none_named, one_once, one_some, some_named}
pub use Rattle.fact_laws.proofs.Different.{first_removed}
use Rattle.fact_laws.proofs.Shown.{named_both, named_first}
use Rattle.fact_laws.specs.Asked.{statement_facts, names_of_facts, fresh_facts, is_referred, references_in, references_of, refers_to, same_mode}

pub same_test : (a b : Values) → is_same a b ≡ same_name a b
unfolding is_same
same_test a b = refl

pub some_present : (n : Values) (list : List Values) → one_if_some (times_named n list) ≡ cond (list_any (is_same n) list) 1 0
some_present n list = by (list_any (same_name n) list) refl ∙ ap {B = ℕ} (λ (p : Values → Bool). cond (list_any p list) 1 0) (λ i m. sym (same_test n m) i)
  where
    by : (b : Bool) → list_any (same_name n) list ≡ b → one_if_some (times_named n list) ≡ cond b 1 0
    by true e = one_some (times_named n list) (some_named n list e)
    by false e = ap one_if_some (none_named n list e)

-- ---- the facts of all statements

same_refers : (mode : Mode) (fact : Values) (s : Statement) → list_any (is_same fact) (references_of mode s) ≡ refers_to mode fact s
same_refers mode fact s = by (same_mode mode s.mode)
  where
    by : (b : Bool) → list_any (is_same fact) (cond b (fact_names s.test) []) ≡ (b && list_any (is_same fact) (fact_names s.test))
    by true = refl
    by false = refl

same_referred : (mode : Mode) (statements : List Statement) (fact : Values) → list_any (is_same fact) (references_in mode statements) ≡ is_referred mode statements fact
same_referred mode [] fact = refl
same_referred mode (s ∷ statements) fact =
    list_any-append (is_same fact) (references_of mode s) (references_in mode statements)
    ∙ (λ i. same_refers mode fact s i || same_referred mode statements fact i)

pub counted : (mode : Mode) (statements : List Statement) (fact : Values) → times_named fact (statement_facts mode statements) ≡ cond (is_referred mode statements fact) 1 0
counted mode statements fact =
    one_once fact (references_in mode statements)
    ∙ some_present fact (references_in mode statements)
    ∙ ap {B = ℕ} (λ (b : Bool). cond b 1 0) (same_referred mode statements fact)

pub counted_once : (mode : Mode) (statements : List Statement) (fact : Values) → times_named fact (statement_facts mode statements) ≤ 1
counted_once mode statements fact = omega (arith, counted mode statements fact, one_at_most (is_referred mode statements fact))

-- ---- the new facts of a statement

of_one : (mode : Mode) (fact : Values) (s : Statement) → times_named fact (names_of_facts mode s) ≡ cond (refers_to mode fact s) 1 0
of_one mode fact s = by (same_mode mode s.mode)
  where
    by : (b : Bool) → times_named fact (cond b (different (fact_names s.test)) []) ≡ cond (b && list_any (is_same fact) (fact_names s.test)) 1 0
    by true = one_once fact (fact_names s.test) ∙ some_present fact (fact_names s.test)
    by false = refl

left_out : (p : Values → Bool) (n : Values) (list : List Values) → times_named n (filter p list) ≡ cond (p n) (times_named n list) 0
left_out p n [] = by (p n)
  where
    by : (b : Bool) → ◌≡◌ {A = ℕ} 0 (cond b 0 0)
    by true = refl
    by false = refl
left_out p n (x ∷ list) = by (same_name n x) refl (p x) refl (p n) refl (left_out p n list)
  where
    by : (s : Bool) → same_name n x ≡ s → (a : Bool) → p x ≡ a → (b : Bool) → p n ≡ b → times_named n (filter p list) ≡ cond (p n) (times_named n list) 0
        → times_named n (cond a (x ∷ filter p list) (filter p list)) ≡ cond b (times_named n (x ∷ list)) 0
    by s e true f true g later = omega (arith, named_first n x (filter p list), named_first n x list, later, ap {B = ℕ} (λ (c : Bool). cond c (times_named n list) 0) g)
    by s e false f false g later = later ∙ ap {B = ℕ} (λ (c : Bool). cond c (times_named n list) 0) g
    by true e true f false g later = absurd (true≢false (sym f ∙ ap p (sym ((same_name-Decides n x).0 e)) ∙ g))
    by true e false f true g later = absurd (true≢false (sym g ∙ ap p ((same_name-Decides n x).0 e) ∙ f))
    by false e true f false g later = omega (arith, named_first n x (filter p list), ap {B = ℕ} (λ (c : Bool). cond c 1 0) e, later, ap {B = ℕ} (λ (c : Bool). cond c (times_named n list) 0) g)
    by false e false f true g later = omega (arith, named_first n x list, ap {B = ℕ} (λ (c : Bool). cond c 1 0) e, later, ap {B = ℕ} (λ (c : Bool). cond c (times_named n list) 0) g)

fresh_counted : (mode : Mode) (others : List Statement) (s : Statement) (fact : Values) → times_named fact (fresh_facts mode others s) ≡ cond (not (is_referred mode others fact)) (cond (refers_to mode fact s) 1 0) 0
fresh_counted mode others s fact =
    left_out (λ n. not (is_referred mode others n)) fact (names_of_facts mode s)
    ∙ ap {B = ℕ} (λ (k : ℕ). cond (not (is_referred mode others fact)) k 0) (of_one mode fact s)

-- the facts of some statements and of one more are the facts of all of them
pub facts_with : (mode : Mode) (others all : List Statement) (s : Statement) → ((p : Statement → Bool) → list_any p all ≡ (p s || list_any p others)) → SameElements (fresh_facts mode others s ++ statement_facts mode others) (statement_facts mode all)
facts_with mode others all s one = counts_same (fresh_facts mode others s ++ statement_facts mode others) (statement_facts mode all) each
  where
    sum : (a b : Bool) → cond (not b) (cond a 1 0) 0 + cond b 1 0 ≡ cond (a || b) 1 0
    sum true true = refl
    sum true false = refl
    sum false true = refl
    sum false false = refl

    each : (n : Values) → times_named n (fresh_facts mode others s ++ statement_facts mode others) ≡ times_named n (statement_facts mode all)
    each n =
        omega (
          arith,
          named_both n (fresh_facts mode others s) (statement_facts mode others),
          fresh_counted mode others s n,
          counted mode others n,
          counted mode all n,
          sum (refers_to mode n s) (is_referred mode others n),
          ap {B = ℕ} (λ (b : Bool). cond b 1 0) (one (refers_to mode n)),
        )

-- ---- the weight of facts

pub fewer_of : (mode : Mode) (s : Statement) (weight : Values → ℕ) → sum_by weight (names_of_facts mode s) ≤ sum_by weight (references_of mode s)
fewer_of mode s weight = by (same_mode mode s.mode)
  where
    by : (b : Bool) → sum_by weight (cond b (different (fact_names s.test)) []) ≤ sum_by weight (cond b (fact_names s.test) [])
    by true = less_different weight (fact_names s.test)
    by false = omega arith

pub fewer_fresh : (mode : Mode) (others : List Statement) (s : Statement) (weight : Values → ℕ) → sum_by weight (fresh_facts mode others s) ≤ sum_by weight (references_of mode s)
fewer_fresh mode others s weight = omega (arith, sum_passing weight (λ n. not (is_referred mode others n)) (names_of_facts mode s), fewer_of mode s weight)

pub fewer_in : (mode : Mode) (statements : List Statement) (weight : Values → ℕ) → sum_by weight (statement_facts mode statements) ≤ sum_by weight (references_in mode statements)
fewer_in mode statements weight = less_different weight (references_in mode statements)
