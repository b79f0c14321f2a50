-- Rising lists of tickets without one of these.
use Rattle.std.proofs.Common.{◌≡◌, ℕ, zero, suc, ◌+◌, ◌-◌, ◌<◌, ◌≤◌, Bool, true, false, not, cond, List, [], ◌∷◌, ◌++◌, length, take, drop, refl, sym, ap, ◌∙◌, arith}
use Rattle.std.specs.Prelude.{nat_eq, nat_lt}
use Rattle.std.specs.List.{AllByRecursion, slice_index_or}
use Rattle.std.proofs.lemmas.Bool.Decides.{nat_tests}
use Rattle.ticket_list.specs.Tickets.{ends_with, is_at, without}
use Rattle.ticket_list.specs.Rising.{IsRising, prefix}

pub without_none : (t : ℕ) (xs : List ℕ) → AllByRecursion (λ y. nat_eq y t ≡ false) xs → without t xs ≡ xs
without_none t [] h = refl
without_none t (x ∷ xs) h = ap (λ (b : Bool). cond (not b) (x ∷ without t xs) (without t xs)) h.0 ∙ ap (λ (u : List ℕ). x ∷ u) (without_none t xs h.1)

above_differ : (t n : ℕ) (xs : List ℕ) → AllByRecursion (λ y. n < y) xs → nat_lt n t ≡ false → AllByRecursion (λ y. nat_eq y t ≡ false) xs
above_differ t n [] h low = tt
above_differ t n (x ∷ xs) h low = (let lt : n < x = h.0 in grind (arith, nat_tests), above_differ t n xs h.1 low)

less_differs : (x t : ℕ) → nat_lt x t ≡ true → nat_eq x t ≡ false
less_differs x t h = grind (arith, nat_tests)

pub is_at_within : (xs : List ℕ) (k t : ℕ) → is_at xs k t ≡ true → k < length xs
is_at_within [] k t h = let wrong : false ≡ true = h in absurd (cc)
is_at_within (x ∷ xs) zero t h = omega arith
is_at_within (x ∷ xs) (suc k) t h = omega (arith, is_at_within xs k t h)

taken_below : (t x f : ℕ) (xs : List ℕ) → nat_lt x t ≡ true → take f xs ++ drop (f + 1) xs ≡ without t xs
    → take (suc f) (x ∷ xs) ++ drop (suc f + 1) (x ∷ xs) ≡ without t (x ∷ xs)
taken_below t x f xs lt h =
    let same : suc f + 1 ≡ suc (f + 1) = omega arith in
    ap (λ (n : ℕ). x ∷ (take f xs ++ drop n (x ∷ xs))) same
    ∙ (ap (λ (u : List ℕ). x ∷ u) h ∙ ap (λ (b : Bool). cond (not b) (x ∷ without t xs) (without t xs)) (sym (less_differs x t lt)))

pub taken_out : (t : ℕ) (xs : List ℕ) → IsRising xs → is_at xs (prefix (λ x. nat_lt x t) xs) t ≡ true
    → take (prefix (λ x. nat_lt x t) xs) xs ++ drop (prefix (λ x. nat_lt x t) xs + 1) xs ≡ without t xs
taken_out t [] r h = let wrong : false ≡ true = h in absurd (cc)
taken_out t (x ∷ xs) r h = go (nat_lt x t) refl h (taken_out t xs r.1) where
  go : (b : Bool) → nat_lt x t ≡ b → is_at (x ∷ xs) (cond b (suc (prefix (λ x. nat_lt x t) xs)) 0) t ≡ true
      → (is_at xs (prefix (λ x. nat_lt x t) xs) t ≡ true → take (prefix (λ x. nat_lt x t) xs) xs ++ drop (prefix (λ x. nat_lt x t) xs + 1) xs ≡ without t xs)
      → take (cond b (suc (prefix (λ x. nat_lt x t) xs)) 0) (x ∷ xs) ++ drop (cond b (suc (prefix (λ x. nat_lt x t) xs)) 0 + 1) (x ∷ xs) ≡ without t (x ∷ xs)
  go true e h more = taken_below t x (prefix (λ x. nat_lt x t) xs) xs e (more h)
  go false e h more =
      let none = without_none t xs (above_differ t x xs r.0 e) in
      let here : 0 + 1 ≡ suc 0 = omega arith in
      ap (λ (n : ℕ). drop n (x ∷ xs)) here
      ∙ (sym none ∙ ap (λ (b : Bool). cond (not b) (x ∷ without t xs) (without t xs)) (sym h))

pub not_there : (t : ℕ) (xs : List ℕ) → IsRising xs → is_at xs (prefix (λ x. nat_lt x t) xs) t ≡ false → xs ≡ without t xs
not_there t [] r h = refl
not_there t (x ∷ xs) r h = go (nat_lt x t) refl h (not_there t xs r.1) where
  go : (b : Bool) → nat_lt x t ≡ b → is_at (x ∷ xs) (cond b (suc (prefix (λ x. nat_lt x t) xs)) 0) t ≡ false
      → (is_at xs (prefix (λ x. nat_lt x t) xs) t ≡ false → xs ≡ without t xs)
      → x ∷ xs ≡ without t (x ∷ xs)
  go true e h more = ap (λ (u : List ℕ). x ∷ u) (more h) ∙ ap (λ (b : Bool). cond (not b) (x ∷ without t xs) (without t xs)) (sym (less_differs x t e))
  go false e h more = sym (without_none t (x ∷ xs) (h, above_differ t x xs r.0 e))

pub taken_at : (t f : ℕ) (xs : List ℕ) → IsRising xs → f ≡ prefix (λ x. nat_lt x t) xs → is_at xs f t ≡ true
    → take f xs ++ drop (f + 1) xs ≡ without t xs
taken_at t f xs r e h = (λ i. take (e i) xs ++ drop (e i + 1) xs) ∙ taken_out t xs r (ap (λ (n : ℕ). is_at xs n t) (sym e) ∙ h)

pub absent_at : (t f : ℕ) (xs : List ℕ) → IsRising xs → f ≡ prefix (λ x. nat_lt x t) xs → is_at xs f t ≡ false → xs ≡ without t xs
absent_at t f xs r e h = not_there t xs r (ap (λ (n : ℕ). is_at xs n t) (sym e) ∙ h)

pub ends_is : (t : ℕ) (xs : List ℕ) → 1 ≤ length xs → ends_with t xs ≡ nat_eq (slice_index_or xs (length xs - 1) 0) t
ends_is t [] h = absurd (omega (arith, h))
ends_is t (x ∷ []) h = refl
ends_is t (x ∷ y ∷ xs) h =
    let same : length (x ∷ y ∷ xs) - 1 ≡ suc (length (y ∷ xs) - 1) = omega arith in
    ends_is t (y ∷ xs) (omega arith) ∙ ap (λ (n : ℕ). nat_eq (slice_index_or (x ∷ y ∷ xs) n 0) t) (sym same)

lower_differs : (a b : ℕ) → a < b → nat_eq a b ≡ false
lower_differs a b h = grind (arith, nat_tests)

pub not_last : (t : ℕ) (xs : List ℕ) → AllByRecursion (λ x. x < t) xs → ends_with t xs ≡ false
not_last t [] h = refl
not_last t (x ∷ []) h = lower_differs x t h.0
not_last t (x ∷ (y ∷ xs)) h = not_last t (y ∷ xs) h.1
