-- Lemmas: reading a list by `slice_get` after a write or an appended element; sums over lists that differ at one place.
use Rattle.std.proofs.Common.{◌≡◌, ◌≢◌, ℕ, zero, suc, ◌+◌, ◌<◌, ◌≤◌, List, [], ◌∷◌, ◌++◌, length, get_or, set, Option, Some, None, is_some, count_by, cond, slice_get, refl, sym, ap, arith}
use Rattle.std.specs.List.{sum_by}
use Rattle.std.proofs.lemmas.List.Sums.{sum_by-cons}

module _ {X : Type 0} where
  pub slice_get-set_same : (xs : List X) (i : ℕ) (x : X) → i < length xs → slice_get (set xs i x) i ≡ Some x
  slice_get-set_same [] i x h = absurd (omega arith)
  slice_get-set_same (y ∷ xs) zero x h = refl
  slice_get-set_same (y ∷ xs) (suc i) x h = slice_get-set_same xs i x (omega arith)

  pub slice_get-set_other : (xs : List X) (i j : ℕ) (x : X) → j ≢ i → slice_get (set xs i x) j ≡ slice_get xs j
  slice_get-set_other [] i j x h = refl
  slice_get-set_other (y ∷ xs) zero zero x h = absurd (h refl)
  slice_get-set_other (y ∷ xs) zero (suc j) x h = refl
  slice_get-set_other (y ∷ xs) (suc i) zero x h = refl
  slice_get-set_other (y ∷ xs) (suc i) (suc j) x h = slice_get-set_other xs i j x (λ e. h (ap suc e))

  pub slice_get_push : (xs : List X) (x : X) → slice_get (xs ++ x ∷ []) (length xs) ≡ Some x
  slice_get_push [] x = refl
  slice_get_push (y ∷ xs) x = slice_get_push xs x

  pub slice_get-push_other : (xs : List X) (x : X) (j : ℕ) → j ≢ length xs → slice_get (xs ++ x ∷ []) j ≡ slice_get xs j
  slice_get-push_other [] x zero h = absurd (h refl)
  slice_get-push_other [] x (suc j) h = refl
  slice_get-push_other (y ∷ xs) x zero h = refl
  slice_get-push_other (y ∷ xs) x (suc j) h = slice_get-push_other xs x j (λ e. h (ap suc e))

-- A list of optional elements is read as if `None` followed its end.
module _ {X : Type 0} (f : Option X → ℕ) (f-none : f None ≡ 0) where
  sum_none : (ls : List (Option X)) → ((j : ℕ) → get_or ls j None ≡ None) → sum_by f ls ≡ 0
  sum_none [] h = refl
  sum_none (x ∷ ls) h = omega (arith, sum_by-cons f x ls, ap f (h 0), f-none, sum_none ls (λ j. h (suc j)))

  pub sum_by-same_reads : (ls ms : List (Option X)) → ((j : ℕ) → get_or ms j None ≡ get_or ls j None) → sum_by f ms ≡ sum_by f ls
  sum_by-same_reads [] ms h = sum_none ms h
  sum_by-same_reads (x ∷ ls) [] h = sym (sum_none (x ∷ ls) (λ j. sym (h j)))
  sum_by-same_reads (x ∷ ls) (y ∷ ms) h =
      omega (arith, sum_by-cons f x ls, sum_by-cons f y ms, ap f (h 0), sum_by-same_reads ls ms (λ j. h (suc j)))

  pub sum_by-one_read : (ls ms : List (Option X)) (i : ℕ) → ((j : ℕ) → j ≢ i → get_or ms j None ≡ get_or ls j None) → sum_by f ms + f (get_or ls i None) ≡ sum_by f ls + f (get_or ms i None)
  sum_by-one_read [] [] i h = refl
  sum_by-one_read [] (y ∷ ms) zero h = omega (arith, sum_by-cons f y ms, sum_none ms (λ j. h (suc j) (λ e. omega arith)), f-none)
  sum_by-one_read [] (y ∷ ms) (suc i) h =
      omega (arith, sum_by-cons f y ms, ap f (h 0 (λ e. omega arith)), f-none, sum_by-one_read [] ms i (λ j n. h (suc j) (λ e. n (omega arith))))
  sum_by-one_read (x ∷ ls) [] zero h = omega (arith, sum_by-cons f x ls, sum_none ls (λ j. sym (h (suc j) (λ e. omega arith))), f-none)
  sum_by-one_read (x ∷ ls) [] (suc i) h =
      omega (arith, sum_by-cons f x ls, ap f (h 0 (λ e. omega arith)), f-none, sum_by-one_read ls [] i (λ j n. h (suc j) (λ e. n (omega arith))))
  sum_by-one_read (x ∷ ls) (y ∷ ms) zero h =
      omega (arith, sum_by-cons f x ls, sum_by-cons f y ms, sum_by-same_reads ls ms (λ j. h (suc j) (λ e. omega arith)))
  sum_by-one_read (x ∷ ls) (y ∷ ms) (suc i) h =
      omega (arith, sum_by-cons f x ls, sum_by-cons f y ms, ap f (h 0 (λ e. omega arith)), sum_by-one_read ls ms i (λ j n. h (suc j) (λ e. n (omega arith))))

module _ {X : Type 0} (f : Option X → ℕ) where
  pub sum_by-ge_read : (ls : List (Option X)) (i : ℕ) → f None ≡ 0 → f (get_or ls i None) ≤ sum_by f ls
  sum_by-ge_read [] i z = omega arith
  sum_by-ge_read (x ∷ ls) zero z = omega (arith, sum_by-cons f x ls)
  sum_by-ge_read (x ∷ ls) (suc i) z = omega (arith, sum_by-cons f x ls, sum_by-ge_read ls i z)

  pub count-le_sum : ((x : X) → 1 ≤ f (Some x)) → (ls : List (Option X)) → count_by is_some ls ≤ sum_by f ls
  count-le_sum h [] = omega arith
  count-le_sum h (None ∷ ls) = omega (arith, sum_by-cons f None ls, sum_by-cons (λ (o : Option X). cond (is_some o) 1 0) None ls, count-le_sum h ls)
  count-le_sum h (Some x ∷ ls) = omega (arith, h x, sum_by-cons f (Some x) ls, sum_by-cons (λ (o : Option X). cond (is_some o) 1 0) (Some x) ls, count-le_sum h ls)
