-- Lemmas: a list that is cut at two places.
use Rattle.std.proofs.Common.{◌≡◌, ℕ, zero, suc, ◌+◌, ◌≤◌, List, [], ◌∷◌, ◌++◌, take, drop, refl, sym, ap, ◌∙◌, arith, take-append-drop}

module _ {X : Type 0} where
  take_none : (n : ℕ) → take {A = X} n [] ≡ []
  take_none zero = refl
  take_none (suc n) = refl

  pub drop_none : (n : ℕ) → drop {A = X} n [] ≡ []
  drop_none zero = refl
  drop_none (suc n) = refl

  pub take_more : (xs : List X) (a n m : ℕ) → m ≡ a + n → take m xs ≡ take a xs ++ take n (drop a xs)
  take_more xs zero n m e = ap (λ (k : ℕ). take k xs) (let same : m ≡ n = omega (arith, e) in same)
  take_more [] (suc a) n m e = take_none m ∙ sym (take_none n)
  take_more (x ∷ xs) (suc a) n zero e = absurd (omega (arith, e))
  take_more (x ∷ xs) (suc a) n (suc m) e = ap (λ (u : List X). x ∷ u) (take_more xs a n m (omega (arith, e)))

  pub drop_more : (xs : List X) (a n m : ℕ) → m ≡ a + n → drop n (drop a xs) ≡ drop m xs
  drop_more xs zero n m e = ap (λ (k : ℕ). drop k xs) (let same : n ≡ m = omega (arith, e) in same)
  drop_more [] (suc a) n m e = drop_none n ∙ sym (drop_none m)
  drop_more (x ∷ xs) (suc a) n zero e = absurd (omega (arith, e))
  drop_more (x ∷ xs) (suc a) n (suc m) e = drop_more xs a n m (omega (arith, e))

  pub drop_parts : (xs : List X) (a n m : ℕ) → m ≡ a + n → drop a xs ≡ take n (drop a xs) ++ drop m xs
  drop_parts xs a n m e = sym (take-append-drop n (drop a xs)) ∙ ap (λ (u : List X). take n (drop a xs) ++ u) (drop_more xs a n m e)

  pub take_less : (xs : List X) (a h : ℕ) → a ≤ h → take a (take h xs) ≡ take a xs
  take_less xs zero h le = refl
  take_less xs (suc a) zero le = absurd (omega (arith, le))
  take_less [] (suc a) (suc h) le = refl
  take_less (x ∷ xs) (suc a) (suc h) le = ap (λ (u : List X). x ∷ u) (take_less xs a h (omega (arith, le)))

  pub drop_less : (xs : List X) (a h : ℕ) → a ≤ h → drop a (take h xs) ++ drop h xs ≡ drop a xs
  drop_less xs zero h le = take-append-drop h xs
  drop_less xs (suc a) zero le = absurd (omega (arith, le))
  drop_less [] (suc a) (suc h) le = refl
  drop_less (x ∷ xs) (suc a) (suc h) le = drop_less xs a h (omega (arith, le))
