-- Lemmas: lists with a prefix that passes a test.
use Rattle.std.proofs.Common.{◌≡◌, ℕ, zero, suc, ◌-◌, ◌<◌, ◌≤◌, Bool, true, false, not, ◌&&◌, cond, List, [], ◌∷◌, ◌++◌, length, take, drop, refl, sym, ap, ◌∙◌, inl, inr, arith}
use Rattle.std.specs.List.{AllByRecursion, filter, slice_index_or}
use Rattle.std.specs.List.Sorted.{IsPartitionPoint, IsPartitionedBy}
use Rattle.std.proofs.lemmas.Bool.{cases_Bool, both_ways}
use Rattle.std.proofs.lemmas.List.Elements.{All-from_recursion}
use Rattle.name_index.specs.Blocks.{AllAre, IsParted}
use Rattle.name_index.specs.Places.{last_passes}

module _ {X : Type 0} (P : X → Type 0) where
  pub all_append : (xs ys : List X) → AllByRecursion P xs → AllByRecursion P ys → AllByRecursion P (xs ++ ys)
  all_append [] ys h k = k
  all_append (x ∷ xs) ys h k = (h.0, all_append xs ys h.1 k)

  pub all_front : (xs ys : List X) → AllByRecursion P (xs ++ ys) → AllByRecursion P xs
  all_front [] ys h = tt
  all_front (x ∷ xs) ys h = (h.0, all_front xs ys h.1)

  pub all_back : (xs ys : List X) → AllByRecursion P (xs ++ ys) → AllByRecursion P ys
  all_back [] ys h = h
  all_back (x ∷ xs) ys h = all_back xs ys h.1

  pub all_past : (xs : List X) → AllByRecursion P (drop (length xs) xs)
  all_past [] = tt
  all_past (x ∷ xs) = all_past xs

module _ {X : Type 0} (p : X → Bool) where
  pub parted_front : (xs ys : List X) → IsParted p (xs ++ ys) → IsParted p xs
  parted_front [] ys s = tt
  parted_front (x ∷ xs) ys s = (λ no. all_front (λ y. p y ≡ false) xs ys (s.0 no), parted_front xs ys s.1)

  pub parted_back : (xs ys : List X) → IsParted p (xs ++ ys) → IsParted p ys
  parted_back [] ys s = s
  parted_back (x ∷ xs) ys s = parted_back xs ys s.1

  pub parted_by : (xs : List X) → IsParted p xs → IsPartitionedBy p xs
  parted_by [] s i j d le lt h = absurd (omega (arith, lt))
  parted_by (x ∷ xs) s zero zero d le lt h = h
  parted_by (x ∷ xs) s zero (suc j) d le lt h = elim (cases_Bool (p x)) [
    | inl yes_ ↦ yes_
    | inr no_ ↦ absurd (both_ways _ (All-from_recursion (λ y. p y ≡ false) xs (s.0 no_) j d (omega (arith, lt))) h)
  ]
  parted_by (x ∷ xs) s (suc i) zero d le lt h = absurd (omega (arith, le))
  parted_by (x ∷ xs) s (suc i) (suc j) d le lt h = parted_by xs s.1 i j d (omega (arith, le)) (omega (arith, lt)) h

  -- The elements before the end of the test pass, and the elements after it fail.
  pub cut_passing : (xs : List X) (i : ℕ) → IsPartitionPoint (λ x. p x ≡ true) (λ x. p x ≡ false) xs i → AllAre p true (take i xs)
  cut_passing [] zero h = tt
  cut_passing [] (suc i) h = tt
  cut_passing (x ∷ xs) zero h = tt
  cut_passing (x ∷ xs) (suc i) h = (
    h.0 0 x (omega arith) (omega arith),
    cut_passing xs i (λ k d low high. h.0 (suc k) d (omega arith) (omega (arith, high)), λ k d low high. h.1 (suc k) d (omega (arith, low)) (omega (arith, high))),
  )

  pub cut_failing : (xs : List X) (i : ℕ) → IsPartitionPoint (λ x. p x ≡ true) (λ x. p x ≡ false) xs i → AllAre p false (drop i xs)
  cut_failing [] zero h = tt
  cut_failing [] (suc i) h = tt
  cut_failing (x ∷ xs) zero h = (
    h.1 0 x (omega arith) (omega arith),
    cut_failing xs zero (λ k d low high. absurd (omega (arith, high)), λ k d low high. h.1 (suc k) d (omega arith) (omega (arith, high))),
  )
  cut_failing (x ∷ xs) (suc i) h =
      cut_failing xs i (λ k d low high. h.0 (suc k) d (omega arith) (omega (arith, high)), λ k d low high. h.1 (suc k) d (omega (arith, low)) (omega (arith, high)))

-- ---- the last element of a list

module _ (p : ℕ → Bool) where
  pub last_true : (xs : List ℕ) → IsParted p xs → last_passes p xs ≡ true → AllAre p true xs
  last_true [] s h = tt
  last_true (x ∷ []) s h = (h, tt)
  last_true (x ∷ y ∷ xs) s h =
      let more = last_true (y ∷ xs) s.1 h in
      (elim (cases_Bool (p x)) [ inl yes_ ↦ yes_ | inr no_ ↦ absurd (both_ways _ (s.0 no_).0 more.0) ], more)

  pub last_false : (xs ys : List ℕ) → 0 < length xs → IsParted p (xs ++ ys) → last_passes p xs ≡ false → AllAre p false ys
  last_false [] ys some s h = absurd (omega (arith, some))
  last_false (x ∷ []) ys some s h = s.0 h
  last_false (x ∷ y ∷ xs) ys some s h = last_false (y ∷ xs) ys (omega arith) s.1 h

  pub last_of_failing : (xs : List ℕ) → 0 < length xs → AllAre p false xs → last_passes p xs ≡ false
  last_of_failing [] some h = absurd (omega (arith, some))
  last_of_failing (x ∷ []) some h = h.0
  last_of_failing (x ∷ y ∷ xs) some h = last_of_failing (y ∷ xs) (omega arith) h.1

  pub last_is : (xs : List ℕ) → 1 ≤ length xs → last_passes p xs ≡ p (slice_index_or xs (length xs - 1) 0)
  last_is [] h = absurd (omega (arith, h))
  last_is (x ∷ []) h = refl
  last_is (x ∷ y ∷ xs) h =
      let same : length (x ∷ y ∷ xs) - 1 ≡ suc (length (y ∷ xs) - 1) = omega arith in
      last_is (y ∷ xs) (omega arith) ∙ ap (λ (n : ℕ). p (slice_index_or (x ∷ y ∷ xs) n 0)) (sym same)

-- ---- the elements that a filter keeps

module _ {X : Type 0} (p : X → Bool) where
  pub filter_none : (xs : List X) → AllAre p false xs → filter p xs ≡ []
  filter_none [] h = refl
  filter_none (x ∷ xs) h = ap (λ (b : Bool). cond b (x ∷ filter p xs) (filter p xs)) h.0 ∙ filter_none xs h.1

  filter_front : (xs ys : List X) → AllAre p true xs → AllAre p false ys → filter p (xs ++ ys) ≡ xs
  filter_front [] ys h k = filter_none ys k
  filter_front (x ∷ xs) ys h k = ap (λ (b : Bool). cond b (x ∷ filter p (xs ++ ys)) (filter p (xs ++ ys))) h.0 ∙ ap (λ (u : List X). x ∷ u) (filter_front xs ys h.1 k)

  pub filter_middle : (xs ys zs : List X) → AllAre p false xs → AllAre p true ys → AllAre p false zs → filter p (xs ++ (ys ++ zs)) ≡ ys
  filter_middle [] ys zs h k l = filter_front ys zs k l
  filter_middle (x ∷ xs) ys zs h k l = ap (λ (b : Bool). cond b (x ∷ filter p (xs ++ (ys ++ zs))) (filter p (xs ++ (ys ++ zs)))) h.0 ∙ filter_middle xs ys zs h.1 k l

-- ---- the elements between the ends of two tests

module _ {X : Type 0} (p q : X → Bool) where
  abbrev pub only_second : X → Bool
  only_second x = not (p x) && q x

  pub first_passes : (xs : List X) → AllAre p true xs → AllAre only_second false xs
  first_passes [] h = tt
  first_passes (x ∷ xs) h = (ap (λ (b : Bool). not b && q x) h.0, first_passes xs h.1)

  pub second_fails : (xs : List X) → AllAre q false xs → AllAre only_second false xs
  second_fails [] h = tt
  second_fails (x ∷ xs) h = (ap (λ (b : Bool). not (p x) && b) h.0 ∙ and_false (not (p x)), second_fails xs h.1)
    where
      and_false : (b : Bool) → (b && false) ≡ false
      and_false true = refl
      and_false false = refl

  pub both_are : (xs : List X) → AllAre p false xs → AllAre q true xs → AllAre only_second true xs
  both_are [] h k = tt
  both_are (x ∷ xs) h k = (ap (λ (b : Bool). not b && q x) h.0 ∙ k.0, both_are xs h.1 k.1)
