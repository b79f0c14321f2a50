-- Lemmas: lists with the same elements are rearrangements of each other.
use Rattle.std.proofs.Common.{◌≡◌, ℕ, suc, ◌≤◌, ◌<◌, Bool, true, false, cond, List, [], ◌∷◌, length, get_or, refl, sym, ap, arith, eqb, eqb-true, eq-eqb}
use Rattle.std.specs.Prelude.{remove}
use Rattle.std.specs.List.{sum_by}
use Rattle.std.specs.List.Sorted.{IsPermutation}
use Rattle.std.proofs.lemmas.List.{nil_from_length}
use Rattle.std.proofs.lemmas.List.Sums.{sum_by-cons, sum_by-remove}
use Rattle.std.proofs.lemmas.List.Sorted.{IsPermutation-refl, IsPermutation-sym, IsPermutation-cons, IsPermutation-trans, IsPermutation-remove, sum_by-IsPermutation}
use Rattle.name_index.specs.Elements.{SameElements}

abbrev is_it : ℕ → ℕ → ℕ
is_it x y = cond (eqb x y) 1 0

-- The sum of 1 for each element is the length.
counted : (xs : List ℕ) → sum_by (λ (x : ℕ). 1) xs ≡ length xs
counted [] = refl
counted (x ∷ xs) = omega (arith, sum_by-cons (λ (x : ℕ). 1) x xs, counted xs)

record IsFoundAt (x : ℕ) (ys : List ℕ) : Type 0 where
  place : ℕ
  within : place < length ys
  is : x ≡ get_or ys place x

-- An element that is counted at least once is in the list.
present : (x : ℕ) (ys : List ℕ) → 1 ≤ sum_by (is_it x) ys → IsFoundAt x ys
present x [] h = absurd (omega (arith, h))
present x (y ∷ ys) h = by (eqb x y) refl (λ more. present x ys more)
  where
    by : (b : Bool) → eqb x y ≡ b → (1 ≤ sum_by (is_it x) ys → IsFoundAt x ys) → IsFoundAt x (y ∷ ys)
    by true e further = record { place = 0; within = omega arith; is = eqb-true x y e }
    by false e further =
        let rest = further (omega (arith, h, sum_by-cons (is_it x) y ys, ap {B = ℕ} (λ (b : Bool). cond b 1 0) e)) in
        record { place = suc rest.place; within = omega (arith, rest.within); is = rest.is }

pub rearranged : (xs ys : List ℕ) → SameElements xs ys → IsPermutation xs ys
rearranged [] ys same = let none : ys ≡ [] = nil_from_length ys (omega (arith, counted ys, same (λ (x : ℕ). 1))) in rw none (IsPermutation-refl [])
rearranged (x ∷ xs) ys same =
    let itself : is_it x x ≡ 1 = ap {B = ℕ} (λ (b : Bool). cond b 1 0) (eq-eqb x x refl) in
    let here = present x ys (omega (arith, itself, sum_by-cons (is_it x) x xs, same (is_it x))) in
    let rest = rearranged xs (remove ys here.place) (λ f. omega (arith, sum_by-cons f x xs, same f, sum_by-remove f ys here.place x here.within, ap f here.is)) in
    IsPermutation-trans (x ∷ xs) (x ∷ remove ys here.place) ys (IsPermutation-cons x xs (remove ys here.place) rest) (IsPermutation-sym ys (x ∷ remove ys here.place) (IsPermutation-remove ys here.place x here.within here.is))

pub same_by_order : (xs ys : List ℕ) → IsPermutation xs ys → SameElements xs ys
same_by_order xs ys h f = sym (sum_by-IsPermutation f xs ys h)
