-- Lemmas: the truth of a fact, by the list of all targets.
use Rattle.std.proofs.Common.{◌≡◌, ℕ, ◌≤◌, Bool, true, false, cond, ◌||◌, List, [], ◌∷◌, refl, sym, ap, ◌∙◌, arith}
use Rattle.std.specs.List.{list_any, flat_map, sum_by}
use Rattle.std.proofs.lemmas.Bool.{both_ways}
use Rattle.std.proofs.lemmas.List.Folds.{list_any-append}
use Rattle.std.proofs.lemmas.List.Sums.{sum_by-cons}
use Rattle.name_index.specs.Elements.{SameElements}
use Rattle.cpe_rows.specs.cpe_name.Eleven.{Values}
use Rattle.cpe_rows.specs.cpe_relation.Maybe.{maybe}
use Rattle.cpe_rows.specs.cpe_relation.NameRelation.{covers}
use Rattle.cpe_rows.specs.Rows.{Rows}
use Rattle.cpe_rows.specs.Chains.{ends}
use Rattle.cpe_rows.specs.Verdict.{truth, finds_item, fact_truth}
use Rattle.cpe_rows.specs.declared.statement.Mode.{Mode}
use Rattle.cpe_rows.specs.declared.statement.Mode.TheVariants.{Plain, Follow}
use Rattle.fact_laws.specs.Asked.{leads, target_names, is_one}

-- ---- of two lists with the same elements, both or neither have an element that passes a test

module _ {A : Type 0} where
  abbrev passing : (A → Bool) → A → ℕ
  passing p x = cond (p x) 1 0

  some_pass : (p : A → Bool) (xs : List A) → list_any p xs ≡ true → 1 ≤ sum_by (passing p) xs
  some_pass p [] h = absurd cc
  some_pass p (x ∷ xs) h = by (p x) refl (λ more. some_pass p xs more)
    where
      by : (b : Bool) → p x ≡ b → (list_any p xs ≡ true → 1 ≤ sum_by (passing p) xs) → 1 ≤ sum_by (passing p) (x ∷ xs)
      by true e more = omega (arith, sum_by-cons (passing p) x xs, ap {B = ℕ} (λ (b : Bool). cond b 1 0) e)
      by false e more = omega (arith, sum_by-cons (passing p) x xs, more (sym (ap (λ (b : Bool). b || list_any p xs) e) ∙ h))

  none_pass : (p : A → Bool) (xs : List A) → list_any p xs ≡ false → sum_by (passing p) xs ≡ 0
  none_pass p [] h = refl
  none_pass p (x ∷ xs) h = by (p x) refl (λ more. none_pass p xs more)
    where
      by : (b : Bool) → p x ≡ b → (list_any p xs ≡ false → sum_by (passing p) xs ≡ 0) → sum_by (passing p) (x ∷ xs) ≡ 0
      by true e more = absurd (both_ways (p x || list_any p xs) h (ap (λ (b : Bool). b || list_any p xs) e))
      by false e more = omega (arith, sum_by-cons (passing p) x xs, ap {B = ℕ} (λ (b : Bool). cond b 1 0) e, more (sym (ap (λ (b : Bool). b || list_any p xs) e) ∙ h))

  pub any_same : (p : A → Bool) (xs ys : List A) → SameElements xs ys → list_any p xs ≡ list_any p ys
  any_same p xs ys same = by (list_any p xs) (list_any p ys) refl refl
    where
      by : (a b : Bool) → list_any p xs ≡ a → list_any p ys ≡ b → a ≡ b
      by true true e f = refl
      by true false e f = absurd (omega (arith, same (passing p), some_pass p xs e, none_pass p ys f))
      by false true e f = absurd (omega (arith, same (passing p), none_pass p xs e, some_pass p ys f))
      by false false e f = refl

pub same_one : (relates : Values → Values → Bool) (names others same : List Values) → SameElements others same → is_one relates names others ≡ is_one relates names same
same_one relates [] others same h = refl
same_one relates (n ∷ names) others same h = λ i. any_same (relates n) others same h i || same_one relates names others same h i

-- ---- one test of all elements

none_at_all : {A : Type 0} (fs : List A) → list_any (λ f. false) fs ≡ false
none_at_all [] = refl
none_at_all (f ∷ fs) = none_at_all fs

exchange : (a b c d : Bool) → ((a || b) || (c || d)) ≡ ((a || c) || (b || d))
exchange true b c d = refl
exchange false true true d = refl
exchange false true false d = refl
exchange false false c d = refl

any_or : {A : Type 0} (p q : A → Bool) (fs : List A) → list_any (λ f. p f || q f) fs ≡ (list_any p fs || list_any q fs)
any_or p q [] = refl
any_or p q (f ∷ fs) = ap (λ (b : Bool). (p f || q f) || b) (any_or p q fs) ∙ exchange (p f) (q f) (list_any p fs) (list_any q fs)

or_none : (b : Bool) → (b || false) ≡ b
or_none true = refl
or_none false = refl

module _ (relates : Values → Values → Bool) where
  swapped : (of : Values → List Values) (fs items : List Values) → list_any (λ item. is_one relates fs (of item)) items ≡ is_one relates fs (flat_map of items)
  swapped of fs [] = sym (none_at_all fs)
  swapped of fs (item ∷ items) =
      ap (λ (b : Bool). is_one relates fs (of item) || b) (swapped of fs items)
      ∙ sym (any_or (λ f. list_any (relates f) (of item)) (λ f. list_any (relates f) (flat_map of items)) fs)
      ∙ (λ i. list_any (λ f. sym (list_any-append (relates f) (of item) (flat_map of items)) i) fs)

  single : (f : Values) (items : List Values) → list_any (relates f) items ≡ is_one relates (f ∷ []) (flat_map (λ n. n ∷ []) items)
  single f items = go items ∙ sym (or_none (list_any (relates f) (flat_map (λ n. n ∷ []) items)))
    where
      go : (xs : List Values) → list_any (relates f) xs ≡ list_any (relates f) (flat_map (λ n. n ∷ []) xs)
      go [] = refl
      go (x ∷ xs) = ap (λ (b : Bool). relates f x || b) (go xs)

  found_is : (rows : Rows) (mode : Mode) (fact : Values) → finds_item relates rows mode fact ≡ is_one relates (leads rows.entries mode fact) (target_names rows mode)
  found_is rows Plain fact = single fact rows.items
  found_is rows Follow fact = swapped (ends rows.entries) (ends rows.entries fact) rows.items

pub fact_is : (rows : Rows) (mode : Mode) (fact : Values) → fact_truth rows mode fact
    ≡ truth (is_one covers (leads rows.entries mode fact) (target_names rows mode)) (is_one maybe (leads rows.entries mode fact) (target_names rows mode))
fact_is rows mode fact = λ i. truth (found_is covers rows mode fact i) (found_is maybe rows mode fact i)
