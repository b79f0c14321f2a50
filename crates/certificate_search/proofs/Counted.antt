-- Lemmas: a loop over a list counts to the place of the first element that passes.
use Rattle.std.proofs.Common.{◌≡◌, ℕ, ◌+◌, List, Bool, true, false, not, cond, Some, None, drop, slice_get, ap, sym, ◌∙◌, arith}
use Rattle.std.specs.List.{position_or_len}
use Rattle.certificate_check.proofs.Loops.{drop_at, drop_past}

module _ {A : Type 0} (p : A → Bool) (xs : List A) (i : ℕ) where
  -- no element before this place passes
  abbrev pub IsSought : Type 0
  IsSought = position_or_len p xs ≡ i + position_or_len p (drop i xs)

  pub sought_here : (x : A) → IsSought → slice_get xs i ≡ Some x → p x ≡ true → i ≡ position_or_len p xs
  sought_here x sought at h =
      let zero_more : i + 0 ≡ i = omega arith in
      sym (sought ∙ (ap (λ (ys : List A). i + position_or_len p ys) (drop_at xs i x at)
      ∙ (ap (λ b. i + cond (not b) (1 + position_or_len p (drop (i + 1) xs)) 0) h ∙ zero_more)))

  pub sought_next : (x : A) → IsSought → slice_get xs i ≡ Some x → p x ≡ false → position_or_len p xs ≡ (i + 1) + position_or_len p (drop (i + 1) xs)
  sought_next x sought at h =
      let more : i + (1 + position_or_len p (drop (i + 1) xs)) ≡ (i + 1) + position_or_len p (drop (i + 1) xs) = omega arith in
      sought ∙ (ap (λ (ys : List A). i + position_or_len p ys) (drop_at xs i x at)
      ∙ (ap (λ b. i + cond (not b) (1 + position_or_len p (drop (i + 1) xs)) 0) h ∙ more))

  pub sought_none : IsSought → slice_get xs i ≡ None → i ≡ position_or_len p xs
  sought_none sought at =
      let zero_more : i + 0 ≡ i = omega arith in
      sym (sought ∙ (ap (λ (ys : List A). i + position_or_len p ys) (drop_past xs i at) ∙ zero_more))
