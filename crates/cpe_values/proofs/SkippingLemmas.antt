-- Lemmas: skipping the elements at the start of a list that pass a test.
use Rattle.std.proofs.Common.{◌≡◌, ℕ, zero, suc, ◌-◌, ◌<◌, ◌≤◌, Bool, true, false, List, [], ◌∷◌, ◌++◌, length, take, drop, refl, ap, sym, ◌∙◌, one-add, inl, inr, arith}
use Rattle.std.specs.List.{prefix_len}
use Rattle.std.proofs.lemmas.Bool.{cases_Bool}
use Rattle.cpe_values.specs.Skipping.{skip_while}

-- skipping within the first k elements, and then in the rest, equals skipping in the whole list
pub skip_while-prefix : (p : ℕ → Bool) (k : ℕ) (s : List ℕ) → skip_while p (drop (prefix_len p (take k s)) s) ≡ skip_while p s
skip_while-prefix p zero s = refl
skip_while-prefix p (suc k) [] = refl
skip_while-prefix p (suc k) (c ∷ s) =
    elim (cases_Bool (p c)) [
      | inl passes ↦ simp (passes, one-add (prefix_len p (take k s))) (skip_while-prefix p k s)
      | inr fails ↦ simp fails refl
    ]

-- skipping ends in a prefix of the list if this prefix has an element that fails
pub skip_while_within : (p : ℕ → Bool) (k : ℕ) (s : List ℕ) → prefix_len p (take k s) < k → k ≤ length s → skip_while p s ≡ drop (prefix_len p (take k s)) s
skip_while_within p zero s lt le = absurd (omega arith)
skip_while_within p (suc k) [] lt le = absurd (omega arith)
skip_while_within p (suc k) (c ∷ s) lt le =
    elim (cases_Bool (p c)) [
      | inl passes ↦
          let step : prefix_len p (take (suc k) (c ∷ s)) ≡ suc (prefix_len p (take k s)) = rw (passes, one-add (prefix_len p (take k s))) refl in
          simp (passes, one-add (prefix_len p (take k s))) (skip_while_within p k s (omega arith) (omega arith))
      | inr fails ↦ simp fails refl
    ]

-- after skipping, nothing more is skipped
pub skip_again : (p : ℕ → Bool) (s : List ℕ) → skip_while p (skip_while p s) ≡ skip_while p s
skip_again p [] = refl
skip_again p (c ∷ s) = elim (cases_Bool (p c)) [ inl h ↦ rw h (skip_again p s) | inr h ↦ rw (h, h) refl ]

-- the rest after skipping is not longer than the list
pub length-skip_while : (p : ℕ → Bool) (s : List ℕ) → length (skip_while p s) ≤ length s
length-skip_while p [] = omega arith
length-skip_while p (c ∷ s) = elim (cases_Bool (p c)) [ inl h ↦ rw h (omega (arith, length-skip_while p s)) | inr h ↦ rw h (omega arith) ]

-- if nothing is skipped, the first element fails the test
pub skip_stops : (p : ℕ → Bool) (c : ℕ) (s : List ℕ) → skip_while p (c ∷ s) ≡ c ∷ s → p c ≡ false
skip_stops p c s e =
    elim (cases_Bool (p c)) [
      | inl h ↦
          let is : skip_while p s ≡ c ∷ s = rw h at e in
          absurd (omega (arith, ap length is, length-skip_while p s))
      | inr h ↦ h
    ]

one_more : (n k : ℕ) → k ≤ n → suc n - k ≡ suc (n - k)
one_more n k h = omega (arith, h)

-- a function that copies each element that passes copies all skipped elements
pub skipped_copied : (f : List ℕ → List ℕ) (p : ℕ → Bool) → ((c : ℕ) (s : List ℕ) → p c ≡ true → f (c ∷ s) ≡ c ∷ f s) → (s : List ℕ) → f s ≡ take (length s - length (skip_while p s)) s ++ f (skip_while p s)
skipped_copied f p copies [] = refl
skipped_copied f p copies (c ∷ s) =
    elim (cases_Bool (p c)) [
      | inl h ↦
          let rest = skip_while p s in
          let here : take (suc (length s) - length rest) (c ∷ s) ++ f rest ≡ c ∷ (take (length s - length rest) s ++ f rest) =
          ap (λ (n : ℕ). take n (c ∷ s) ++ f rest) (one_more (length s) (length rest) (length-skip_while p s)) in
          rw h (copies c s h ∙ ap (λ (u : List ℕ). c ∷ u) (skipped_copied f p copies s) ∙ sym here)
      | inr h ↦ rw h (ap (λ (n : ℕ). take n (c ∷ s) ++ f (c ∷ s)) (nothing_left (length s)))
    ]
  where
    nothing_left : (n : ℕ) → 0 ≡ suc n - suc n
    nothing_left n = omega arith
