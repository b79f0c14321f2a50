-- The place of the first that passes.
use Rattle.std.proofs.Common.{◌≡◌, ℕ, suc, ◌+◌, Bool, true, false, cond, List, [], ◌∷◌, find, map, position, refl, sym, ap, ◌∙◌, arith}
use Rattle.std.specs.Prelude.{slice_get, Option, Some, None}
use Rattle.std.specs.Option.{option_map}
use Rattle.std.specs.List.{position_from}
use Rattle.std.proofs.lemmas.Iterator.Adapters.{position_from-zero}
use Rattle.statement_rows.specs.Tickets.{first_place}

pub first-map : {X Y : Type 0} (f : X → Y) (q : Y → Bool) (xs : List X) → first_place q (map f xs) ≡ first_place (λ x. q (f x)) xs
first-map f q [] = refl
first-map f q (x ∷ xs) = ap (λ (o : Option ℕ). cond (q (f x)) (Some 0) (option_map suc o)) (first-map f q xs)

pub find-map : {X Y : Type 0} (f : X → Y) (q : Y → Bool) (xs : List X) → find q (map f xs) ≡ option_map f (find (λ x. q (f x)) xs)
find-map f q [] = refl
find-map f q (x ∷ xs) = go (q (f x)) (find-map f q xs) where
  go : (b : Bool) → find q (map f xs) ≡ option_map f (find (λ x. q (f x)) xs)
      → cond b (Some (f x)) (find q (map f xs)) ≡ option_map f (cond b (Some x) (find (λ x. q (f x)) xs))
  go true h = refl
  go false h = h

module _ {X : Type 0} (p : X → Bool) where
  no_suc : (o : Option ℕ) → option_map suc o ≡ None → o ≡ None
  no_suc None h = refl
  no_suc (Some n) h = absurd (cc)

  pub find_none : (xs : List X) → first_place p xs ≡ None → find p xs ≡ None
  find_none [] h = refl
  find_none (x ∷ xs) h = go (p x) h (find_none xs) where
    go : (b : Bool) → cond b (Some 0) (option_map suc (first_place p xs)) ≡ None → (first_place p xs ≡ None → find p xs ≡ None) → cond b (Some x) (find p xs) ≡ None
    go true h more = absurd (cc)
    go false h more = more (no_suc (first_place p xs) h)

  pub find_at : (xs : List X) (k : ℕ) → first_place p xs ≡ Some k → find p xs ≡ slice_get xs k
  find_at [] k h = absurd (cc)
  find_at (x ∷ xs) k h = go (p x) k h (first_place p xs) refl (find_at xs) where
    go : (b : Bool) (k : ℕ) → cond b (Some 0) (option_map suc (first_place p xs)) ≡ Some k → (o : Option ℕ) → first_place p xs ≡ o
        → ((k : ℕ) → first_place p xs ≡ Some k → find p xs ≡ slice_get xs k) → cond b (Some x) (find p xs) ≡ slice_get (x ∷ xs) k
    go true k h o e more = let same : 0 ≡ k = cc h in ap (slice_get (x ∷ xs)) same
    go false k h None e more = absurd (let wrong : None ≡ Some k = sym (ap (option_map suc) e) ∙ h in cc)
    go false k h (Some n) e more =
        let same : suc n ≡ k = let one : Some (suc n) ≡ Some k = sym (ap (option_map suc) e) ∙ h in cc in
        more n e ∙ ap (slice_get (x ∷ xs)) same

-- ---- as std has it

place_from : {X : Type 0} (p : X → Bool) (i : ℕ) (xs : List X) → position_from p i xs ≡ option_map (λ k. i + k) (first_place p xs)
place_from p i [] = refl
place_from p i (x ∷ xs) = go (p x) (place_from p (i + 1) xs) where
  step : (o : Option ℕ) → option_map (λ k. i + 1 + k) o ≡ option_map (λ k. i + k) (option_map suc o)
  step None = refl
  step (Some k) = let same : i + 1 + k ≡ i + suc k = omega arith in ap (λ (n : ℕ). Some n) same

  go : (b : Bool) → position_from p (i + 1) xs ≡ option_map (λ k. i + 1 + k) (first_place p xs)
      → cond b (Some i) (position_from p (i + 1) xs) ≡ option_map (λ k. i + k) (cond b (Some 0) (option_map suc (first_place p xs)))
  go true h = let same : i ≡ i + 0 = omega arith in ap (λ (n : ℕ). Some n) same
  go false h = h ∙ step (first_place p xs)

as_it_is : (o : Option ℕ) → option_map (λ k. 0 + k) o ≡ o
as_it_is None = refl
as_it_is (Some k) = let same : 0 + k ≡ k = omega arith in ap (λ (n : ℕ). Some n) same

pub position_is : {X : Type 0} (p : X → Bool) (xs : List X) → position p xs ≡ first_place p xs
position_is p xs = position_from-zero p xs ∙ (place_from p 0 xs ∙ as_it_is (first_place p xs))
