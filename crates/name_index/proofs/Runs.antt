-- Lemmas: sorted lists; a test that holds for a prefix of a list, and adding an element.
use Rattle.std.proofs.Common.{◌≡◌, Bool, true, false, List, [], ◌∷◌, ◌++◌}
use Rattle.std.specs.List.{AllByRecursion}
use Rattle.std.proofs.lemmas.Bool.{false_from_ne_true, both_ways}
use Rattle.name_index.specs.Blocks.{AllAre, IsParted}
use Rattle.name_index.specs.Keys.{Ordered}

module _ {X : Type 0} (R : X → X → Type 0) where
  -- A test splits a sorted list: if an element passes, all elements before it pass.
  module _ (p : X → Bool) (down : (x y : X) → R x y → p y ≡ true → p x ≡ true) where
    fails_on : (x : X) (ys : List X) → p x ≡ false → AllByRecursion (λ y. R x y) ys → AllAre p false ys
    fails_on x [] fails row = tt
    fails_on x (y ∷ ys) fails row = (false_from_ne_true (p y) (λ is. both_ways _ fails (down x y row.0 is)), fails_on x ys fails row.1)

    pub parted : (xs : List X) → Ordered R xs → IsParted p xs
    parted [] s = tt
    parted (x ∷ xs) s = (λ fails. fails_on x xs fails s.0, parted xs s.1)

  all_put : (P : X → Type 0) (xs ys : List X) (n : X) → AllByRecursion P (xs ++ ys) → P n → AllByRecursion P (xs ++ (n ∷ ys))
  all_put P [] ys n h k = (k, h)
  all_put P (x ∷ xs) ys n h k = (h.0, all_put P xs ys n h.1 k)

  pub put_ordered : (xs ys : List X) (n : X) → Ordered R (xs ++ ys) → AllByRecursion (λ x. R x n) xs → AllByRecursion (λ y. R n y) ys → Ordered R (xs ++ (n ∷ ys))
  put_ordered [] ys n s below above = (above, s)
  put_ordered (x ∷ xs) ys n s below above = (all_put (λ y. R x y) xs ys n s.0 below.0, put_ordered xs ys n s.1 below.1 above)
