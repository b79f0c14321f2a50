-- Lemmas: two rising lists of numbers are equal if they have the same elements.
use Rattle.std.proofs.Common.{◌≡◌, ℕ, zero, suc, ◌+◌, ◌<◌, ◌≤◌, Bool, true, false, cond, leb, List, [], ◌∷◌, length, get_or, sym, ap, subst, ◌∙◌, refl, inl, inr, arith, add-one, leb-true, leb-false, le-leb}
use Rattle.std.specs.List.{sum_by, filter, range_with_len}
use Rattle.std.specs.List.Sorted.{IsSorted, IsPermutation}
use Rattle.std.specs.Ordering.{nat_cmp}
use Rattle.std.proofs.lemmas.Bool.{cases_Bool}
use Rattle.std.proofs.lemmas.List.Sums.{sum_by-cons}
use Rattle.std.proofs.lemmas.List.Sorted.{sum_by-IsPermutation, IsNonDecreasingBy-from_sort}
use Rattle.name_index.specs.Elements.{SameElements}

-- The list's numbers are at least `low`, and each is at least the number before it.
abbrev Rises : ℕ → List ℕ → Type 0
Rises low [] = Unit {0}
Rises low (x ∷ xs) = (low ≤ x) × Rises x xs

-- 1 if `y` is at most `b`, else 0
abbrev up_to : ℕ → ℕ → ℕ
up_to b y = cond (leb y b) 1 0

none_up_to : (b low : ℕ) (xs : List ℕ) → b < low → Rises low xs → sum_by (up_to b) xs ≡ 0
none_up_to b low [] lt r = refl
none_up_to b low (x ∷ xs) lt r = omega (arith, sum_by-cons (up_to b) x xs, above x (omega (arith, lt, r.0)), none_up_to b x xs (omega (arith, lt, r.0)) r.1)
  where
    above : (y : ℕ) → b < y → up_to b y ≡ 0
    above y l = by (leb y b) refl
      where
        by : (c : Bool) → leb y b ≡ c → ◌≡◌ {A = ℕ} (cond c 1 0) 0
        by true e = absurd (omega (arith, l, leb-true y b e))
        by false e = refl

not_below : (x y : ℕ) (xs ys : List ℕ) → Rises y ys → SameElements (x ∷ xs) (y ∷ ys) → y ≤ x
not_below x y xs ys r same = elim (cases_Bool (leb y x)) [
  | inl le ↦ leb-true y x le
  | inr gt ↦ absurd (omega (arith, same (up_to x), sum_by-cons (up_to x) x xs, none_up_to x y (y ∷ ys) (leb-false y x gt) (omega arith, r), here))
]
  where
    here : up_to x x ≡ 1
    here = ap {B = ℕ} (λ (b : Bool). cond b 1 0) (le-leb x x (omega arith))

same_rising : (low : ℕ) (xs ys : List ℕ) → Rises low xs → Rises low ys → SameElements xs ys → xs ≡ ys
same_rising low [] [] r s same = refl
same_rising low [] (y ∷ ys) r s same = absurd (omega (arith, same (λ z. 1), sum_by-cons (λ (z : ℕ). 1) y ys))
same_rising low (x ∷ xs) [] r s same = absurd (omega (arith, same (λ z. 1), sum_by-cons (λ (z : ℕ). 1) x xs))
same_rising low (x ∷ xs) (y ∷ ys) r s same =
    let down : y ≤ x = not_below x y xs ys s.1 same in
    let up : x ≤ y = not_below y x ys xs r.1 (λ f. sym (same f)) in
    let is : x ≡ y = omega (arith, down, up) in
    let rest : xs ≡ ys = same_rising x xs ys r.1 (subst (λ (z : ℕ). Rises z ys) (sym is) s.1) (λ f. omega (arith, same f, sum_by-cons f x xs, sum_by-cons f y ys, ap f is)) in
    ap (λ (z : ℕ). z ∷ xs) is ∙ ap (λ (zs : List ℕ). y ∷ zs) rest

lower_start : (low x : ℕ) (xs : List ℕ) → low ≤ x → Rises x xs → Rises low xs
lower_start low x [] le r = tt
lower_start low x (y ∷ ys) le r = (omega (arith, le, r.0), r.1)

range_rises : (p : ℕ → Bool) (a n : ℕ) → Rises a (filter p (range_with_len a n))
range_rises p a zero = tt
range_rises p a (suc n) = by (p a) (lower_start a (a + 1) (filter p (range_with_len (a + 1) n)) (omega arith) (range_rises p (a + 1) n))
  where
    by : (b : Bool) → Rises a (filter p (range_with_len (a + 1) n)) → Rises a (cond b (a ∷ filter p (range_with_len (a + 1) n)) (filter p (range_with_len (a + 1) n)))
    by true r = (omega arith, r)
    by false r = r

sorted_rises : (low : ℕ) (xs : List ℕ) → (0 < length xs → low ≤ get_or xs 0 0) → ((i : ℕ) → i + 1 < length xs → get_or xs i 0 ≤ get_or xs (i + 1) 0) → Rises low xs
sorted_rises low [] first up = tt
sorted_rises low (x ∷ xs) first up = (first (omega arith), sorted_rises x xs (λ l. up 0 (omega (arith, l))) (λ i l. let z = up (suc i) (omega (arith, l)) in rw add-one (rw add-one at z)))

-- Numbers below `n` that pass a test were found in any order. Once sorted, they are equal to the filtered range.
pub sorted_filter : (p : ℕ → Bool) (n : ℕ) (found sorted : List ℕ) → SameElements (filter p (range_with_len 0 n)) found → IsPermutation found sorted → IsSorted nat_cmp sorted → sorted ≡ filter p (range_with_len 0 n)
sorted_filter p n found sorted same moved up =
    let rises = IsNonDecreasingBy-from_sort (λ (m : ℕ). m) sorted up in
    sym (same_rising 0 (filter p (range_with_len 0 n)) sorted (range_rises p 0 n) (sorted_rises 0 sorted (λ l. omega arith) (λ i l. rises i (i + 1) 0 (omega arith) l))
    (λ f. same f ∙ sym (sum_by-IsPermutation f found sorted moved)))
