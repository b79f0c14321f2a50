-- Lemmas: a list in two parts, without the first element that passes a test.
use Rattle.std.proofs.Common.{◌≡◌, ℕ, ◌+◌, suc, List, [], ◌∷◌, ◌++◌, take, drop, position, Bool, true, false, cond, refl, ap, sym, ◌∙◌, arith}
use Rattle.std.specs.Prelude.{Some, None}
use Rattle.std.specs.List.{position_from}
use Rattle.std.proofs.lemmas.Iterator.Adapters.{position_from-zero}
use Rattle.cpe_rows.specs.After.{without_first}

module _ {A : Type 0} (p : A → Bool) where
  -- `k` is the place, counted from `j`, of the element that is left out
  abbrev IsOut : ℕ → ℕ → List A → Type 0
  IsOut j k xs = (i : ℕ) × (k ≡ j + i) × (take i xs ++ drop (suc i) xs ≡ without_first p xs)

  out_from : (j k : ℕ) (xs : List A) → position_from p j xs ≡ Some k → IsOut j k xs
  out_from j k [] h = let wrong : ⊥ = cc in absurd wrong
  out_from j k (x ∷ xs) h = go (p x) h (out_from (j + 1) k xs) where
    here : Some j ≡ Some k → k ≡ j + 0
    here e = let same : j ≡ k = cc in omega arith

    later : (i : ℕ) → k ≡ j + 1 + i → k ≡ j + suc i
    later i e = omega arith

    go : (b : Bool) → cond b (Some j) (position_from p (j + 1) xs) ≡ Some k → (position_from p (j + 1) xs ≡ Some k → IsOut (j + 1) k xs)
        → (i : ℕ) × (k ≡ j + i) × (take i (x ∷ xs) ++ drop (suc i) (x ∷ xs) ≡ cond b xs (x ∷ without_first p xs))
    go true e rest = (0, here e, refl)
    go false e rest = let out = rest e in (suc out.0, later out.0 out.1, ap (λ l. x ∷ l) out.2)

  pub out_at : (k : ℕ) (xs : List A) → position p xs ≡ Some k → take k xs ++ drop (k + 1) xs ≡ without_first p xs
  out_at k xs h =
      let out = out_from 0 k xs (sym (position_from-zero p xs) ∙ h) in
      let next : k + 1 ≡ suc out.0 = let e = out.1 in omega arith in
      let same : k ≡ out.0 = let e = out.1 in omega arith in
      (λ i. take (same i) xs ++ drop (next i) xs) ∙ out.2

  none_from : (j : ℕ) (xs : List A) → position_from p j xs ≡ None → without_first p xs ≡ xs
  none_from j [] h = refl
  none_from j (x ∷ xs) h = go (p x) h (none_from (j + 1) xs) where
    go : (b : Bool) → cond b (Some j) (position_from p (j + 1) xs) ≡ None → (position_from p (j + 1) xs ≡ None → without_first p xs ≡ xs)
        → cond b xs (x ∷ without_first p xs) ≡ x ∷ xs
    go true e rest = let wrong : ⊥ = cc in absurd wrong
    go false e rest = ap (λ l. x ∷ l) (rest e)

  pub none_out : (xs : List A) → position p xs ≡ None → without_first p xs ≡ xs
  none_out xs h = none_from 0 xs (sym (position_from-zero p xs) ∙ h)
