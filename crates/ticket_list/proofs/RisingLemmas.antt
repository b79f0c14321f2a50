-- Lemmas: rising lists. The test "less than t" passes for a beginning of the list, and fails after it.
use Rattle.std.proofs.Common.{◌≡◌, ℕ, zero, suc, ◌<◌, ◌≤◌, Bool, true, false, cond, List, [], ◌∷◌, ◌++◌, length, map, take, drop, refl, sym, ap, ◌∙◌, inl, inr, arith}
use Rattle.std.specs.Prelude.{nat_lt}
use Rattle.std.specs.List.{AllByRecursion, filter, insert}
use Rattle.std.specs.List.Sorted.{IsPartitionPoint, IsPartitionedBy}
use Rattle.std.proofs.lemmas.Bool.{cases_Bool, both_ways}
use Rattle.std.proofs.lemmas.Bool.Decides.{nat_tests}
use Rattle.std.proofs.lemmas.List.Elements.{All-from_recursion}
use Rattle.ticket_list.specs.Rising.{IsRising, IsRisingBy, prefix, put_in}

-- if an element fails the test, all elements after it fail
abbrev IsParted : {X : Type 0} → (X → Bool) → List X → Type 0
IsParted p [] = Unit {0}
IsParted p (x ∷ xs) = (p x ≡ false → AllByRecursion (λ y. p y ≡ false) xs) × IsParted p xs

parted_by : {X : Type 0} (p : X → Bool) (xs : List X) → IsParted p xs → IsPartitionedBy p xs
parted_by p [] s i j d le lt h = absurd (omega (arith, lt))
parted_by p (x ∷ xs) s zero zero d le lt h = h
parted_by p (x ∷ xs) s zero (suc j) d le lt h = elim (cases_Bool (p x)) [
  | inl passes ↦ passes
  | inr fails ↦ absurd (both_ways _ (All-from_recursion (λ y. p y ≡ false) xs (s.0 fails) j d (omega (arith, lt))) h)
]
parted_by p (x ∷ xs) s (suc i) zero d le lt h = absurd (omega (arith, le))
parted_by p (x ∷ xs) s (suc i) (suc j) d le lt h = parted_by p xs s.1 i j d (omega (arith, le)) (omega (arith, lt)) h

not_below : (x y t : ℕ) → x < y → nat_lt x t ≡ false → nat_lt y t ≡ false
not_below x y t lt h = grind (arith, nat_tests)

module _ {X : Type 0} (k : X → ℕ) (t : ℕ) where
  abbrev below : X → Bool
  below x = nat_lt (k x) t

  fail_behind : (n : ℕ) (xs : List X) → AllByRecursion (λ y. n < k y) xs → nat_lt n t ≡ false → AllByRecursion (λ y. below y ≡ false) xs
  fail_behind n [] h low = tt
  fail_behind n (x ∷ xs) h low = (not_below n (k x) t h.0 low, fail_behind n xs h.1 low)

  rising_parted : (xs : List X) → IsRisingBy k xs → IsParted below xs
  rising_parted [] h = tt
  rising_parted (x ∷ xs) h = (fail_behind (k x) xs h.0, rising_parted xs h.1)

  pub rising_partitioned : (xs : List X) → IsRisingBy k xs → IsPartitionedBy below xs
  rising_partitioned xs h = parted_by below xs (rising_parted xs h)

-- the place where the test changes
pub prefix_is : {X : Type 0} (p : X → Bool) (xs : List X) (i : ℕ) → i ≤ length xs
    → IsPartitionPoint (λ x. p x ≡ true) (λ x. p x ≡ false) xs i → i ≡ prefix p xs
prefix_is p [] i le h = omega (arith, le)
prefix_is p (x ∷ xs) zero le h = ap (λ (b : Bool). cond b (suc (prefix p xs)) 0) (sym (h.1 0 x (omega arith) (omega arith)))
prefix_is p (x ∷ xs) (suc i) le h =
    ap suc (prefix_is p xs i (omega (arith, le)) (λ k d low high. h.0 (suc k) d (omega arith) (omega (arith, high)), λ k d low high. h.1 (suc k) d (omega (arith, low)) (omega (arith, high))))
    ∙ ap (λ (b : Bool). cond b (suc (prefix p xs)) 0) (sym (h.0 0 x (omega arith) (omega arith)))

insert_prefix : (t : ℕ) (xs : List ℕ) → insert xs (prefix (λ x. nat_lt x t) xs) t ≡ put_in t xs
insert_prefix t [] = refl
insert_prefix t (x ∷ xs) = go (nat_lt x t) (insert_prefix t xs) where
  go : (b : Bool) → insert xs (prefix (λ x. nat_lt x t) xs) t ≡ put_in t xs
      → insert (x ∷ xs) (cond b (suc (prefix (λ x. nat_lt x t) xs)) 0) t ≡ cond b (x ∷ put_in t xs) (t ∷ (x ∷ xs))
  go true h = ap (λ (u : List ℕ). x ∷ u) h
  go false h = refl

pub put_at : (t f : ℕ) (xs : List ℕ) → f ≡ prefix (λ x. nat_lt x t) xs → insert xs f t ≡ put_in t xs
put_at t f xs e = (λ i. insert xs (e i) t) ∙ insert_prefix t xs

module _ {X : Type 0} (k : X → ℕ) where
  all_drop : (n j : ℕ) (xs : List X) → AllByRecursion (λ y. n < k y) xs → AllByRecursion (λ y. n < k y) (drop j xs)
  all_drop n zero xs h = h
  all_drop n (suc j) [] h = tt
  all_drop n (suc j) (x ∷ xs) h = all_drop n j xs h.1

  all_take : (n j : ℕ) (xs : List X) → AllByRecursion (λ y. n < k y) xs → AllByRecursion (λ y. n < k y) (take j xs)
  all_take n zero xs h = tt
  all_take n (suc j) [] h = tt
  all_take n (suc j) (x ∷ xs) h = (h.0, all_take n j xs h.1)

  pub rising_drop : (j : ℕ) (xs : List X) → IsRisingBy k xs → IsRisingBy k (drop j xs)
  rising_drop zero xs h = h
  rising_drop (suc j) [] h = tt
  rising_drop (suc j) (x ∷ xs) h = rising_drop j xs h.1

  pub rising_take : (j : ℕ) (xs : List X) → IsRisingBy k xs → IsRisingBy k (take j xs)
  rising_take zero xs h = tt
  rising_take (suc j) [] h = tt
  rising_take (suc j) (x ∷ xs) h = (all_take (k x) j xs h.0, rising_take j xs h.1)

  pub all_passing : (n : ℕ) (p : X → Bool) (xs : List X) → AllByRecursion (λ y. n < k y) xs → AllByRecursion (λ y. n < y) (map k (filter p xs))
  all_passing n p [] h = tt
  all_passing n p (x ∷ xs) h = go (p x) (all_passing n p xs h.1) where
    go : (b : Bool) → AllByRecursion (λ y. n < y) (map k (filter p xs)) → AllByRecursion (λ y. n < y) (map k (cond b (x ∷ filter p xs) (filter p xs)))
    go true more = (h.0, more)
    go false more = more

  -- the numbers of the elements that pass the test rise
  pub rising_passing : (p : X → Bool) (xs : List X) → IsRisingBy k xs → IsRising (map k (filter p xs))
  rising_passing p [] h = tt
  rising_passing p (x ∷ xs) h = go (p x) (rising_passing p xs h.1) where
    go : (b : Bool) → IsRising (map k (filter p xs)) → IsRising (map k (cond b (x ∷ filter p xs) (filter p xs)))
    go true more = (all_passing (k x) p xs h.0, more)
    go false more = more

  -- a number below all elements is below them still if one larger element is appended
  all_last : (n : ℕ) (x : X) (xs : List X) → AllByRecursion (λ y. n < k y) xs → n < k x → AllByRecursion (λ y. n < k y) (xs ++ x ∷ [])
  all_last n x [] h lt = (lt, tt)
  all_last n x (y ∷ ys) h lt = (h.0, all_last n x ys h.1 lt)

  pub rising_last : (x : X) (xs : List X) → IsRisingBy k xs → AllByRecursion (λ y. k y < k x) xs → IsRisingBy k (xs ++ x ∷ [])
  rising_last x [] h below = (tt, tt)
  rising_last x (y ∷ ys) h below = (all_last (k y) x ys h.0 below.0, rising_last x ys h.1 below.1)
