-- Lemmas: filters and sums.
use Rattle.std.proofs.Common.{◌≡◌, ℕ, ◌+◌, ◌≤◌, Bool, true, false, cond, List, [], ◌∷◌, refl, sym, ap, ◌∙◌, true≢false, arith}
use Rattle.std.specs.List.{filter, sum_by}
use Rattle.std.proofs.lemmas.List.Sums.{sum_by-cons, sum_by-le-sum_by}
use Rattle.name_index.specs.Elements.{SameElements}

pub one_at_most : (b : Bool) → cond b 1 0 ≤ 1
one_at_most true = omega arith
one_at_most false = omega arith

module _ {X : Type 0} where
  -- what an element adds to a sum, if it passes
  abbrev pub if_passes : (X → Bool) → (X → ℕ) → X → ℕ
  if_passes q f x = cond (q x) (f x) 0

  pub sum_filter : (f : X → ℕ) (q : X → Bool) (xs : List X) → sum_by f (filter q xs) ≡ sum_by (if_passes q f) xs
  sum_filter f q [] = refl
  sum_filter f q (x ∷ xs) = go (q x) (sum_filter f q xs) ∙ sym (sum_by-cons (if_passes q f) x xs)
    where
      go : (b : Bool) → sum_by f (filter q xs) ≡ sum_by (if_passes q f) xs → sum_by f (cond b (x ∷ filter q xs) (filter q xs)) ≡ cond b (f x) 0 + sum_by (if_passes q f) xs
      go true k = sum_by-cons f x (filter q xs) ∙ ap (λ (n : ℕ). f x + n) k
      go false k = omega (arith, k)

  pub sum_agree : (f g : X → ℕ) → ((x : X) → f x ≡ g x) → (xs : List X) → sum_by f xs ≡ sum_by g xs
  sum_agree f g h [] = refl
  sum_agree f g h (x ∷ xs) = omega (arith, sum_by-cons f x xs, sum_by-cons g x xs, h x, sum_agree f g h xs)

  pub sum_both : (f g : X → ℕ) (xs : List X) → sum_by (λ x. f x + g x) xs ≡ sum_by f xs + sum_by g xs
  sum_both f g [] = refl
  sum_both f g (x ∷ xs) = omega (arith, sum_by-cons f x xs, sum_by-cons g x xs, sum_by-cons (λ y. f y + g y) x xs, sum_both f g xs)

  pub sum_none : (xs : List X) → sum_by (λ (x : X). 0) xs ≡ 0
  sum_none [] = refl
  sum_none (x ∷ xs) = omega (arith, sum_by-cons (λ (y : X). 0) x xs, sum_none xs)

  -- The sum over elements that pass a test is at most the sum for a weaker test.
  pub sum_stronger : (f : X → ℕ) (p q : X → Bool) → ((x : X) → p x ≡ true → q x ≡ true) → (xs : List X) → sum_by f (filter p xs) ≤ sum_by f (filter q xs)
  sum_stronger f p q h xs =
      omega (arith, sum_filter f p xs, sum_filter f q xs, sum_by-le-sum_by (if_passes p f) (if_passes q f) xs (λ x. by (p x) (q x) (f x) (h x)))
    where
      by : (a b : Bool) (n : ℕ) → (a ≡ true → b ≡ true) → cond a n 0 ≤ cond b n 0
      by true true n g = omega arith
      by true false n g = absurd (true≢false (sym (g refl)))
      by false b n g = omega arith

  -- The sum over the elements that pass a test is at most the sum over all.
  pub sum_passing : (f : X → ℕ) (q : X → Bool) (xs : List X) → sum_by f (filter q xs) ≤ sum_by f xs
  sum_passing f q xs = omega (arith, sum_filter f q xs, sum_by-le-sum_by (if_passes q f) f xs (λ x. by (q x) (f x)))
    where
      by : (a : Bool) (n : ℕ) → cond a n 0 ≤ n
      by true n = omega arith
      by false n = omega arith

  -- Lists with the same elements have the same elements after a filter.
  pub filter_same : (q : X → Bool) (xs ys : List X) → SameElements xs ys → SameElements (filter q xs) (filter q ys)
  filter_same q xs ys same f = sum_filter f q xs ∙ same (if_passes q f) ∙ sym (sum_filter f q ys)

  -- Two tests that agree on each element keep the same elements.
  pub tests_agree : (p q : X → Bool) → ((x : X) → p x ≡ q x) → (xs ys : List X) → SameElements (filter q xs) ys → SameElements (filter p xs) ys
  tests_agree p q h xs ys same f = sum_filter f p xs ∙ sum_agree (if_passes p f) (if_passes q f) (λ x. ap (λ (b : Bool). cond b (f x) 0) (h x)) xs ∙ sym (sum_filter f q xs) ∙ same f

  pub filter_all : (q : X → Bool) → ((x : X) → q x ≡ true) → (xs : List X) → filter q xs ≡ xs
  filter_all q h [] = refl
  filter_all q h (x ∷ xs) = ap (λ (b : Bool). cond b (x ∷ filter q xs) (filter q xs)) (h x) ∙ ap (λ (u : List X). x ∷ u) (filter_all q h xs)

  -- A filter by a stronger test can be applied after a filter by a weaker test.
  pub filter_stronger : (p q : X → Bool) → ((x : X) → p x ≡ true → q x ≡ true) → (xs ys : List X) → SameElements (filter q xs) ys → SameElements (filter p xs) (filter p ys)
  filter_stronger p q h xs ys same f =
      sum_filter f p xs ∙ sum_agree (if_passes p f) (if_passes q (if_passes p f)) (λ x. by (p x) (q x) (f x) (h x)) xs ∙ sym (sum_filter (if_passes p f) q xs) ∙ same (if_passes p f) ∙ sym (sum_filter f p ys)
    where
      by : (a b : Bool) (n : ℕ) → (a ≡ true → b ≡ true) → cond a n 0 ≡ cond b (cond a n 0) 0
      by true true n g = refl
      by true false n g = absurd (true≢false (sym (g refl)))
      by false true n g = refl
      by false false n g = refl
