-- Lists of tickets with a ticket at the end, or without a ticket.
use Rattle.std.proofs.Common.{◌≡◌, ℕ, ◌<◌, Bool, true, false, not, cond, List, [], ◌∷◌, ◌++◌, refl, ap, ◌∙◌, arith}
use Rattle.std.specs.Prelude.{nat_eq}
use Rattle.std.specs.List.{AllByRecursion}
use Rattle.std.proofs.lemmas.Bool.Decides.{nat_tests}
use Rattle.statement_rows.specs.Tickets.{without_if}
use Rattle.ticket_list.specs.Tickets.{ends_with, with_last, without}
use Rattle.check_results.specs.ticket_list.Rising.{IsRising}

-- ---- lists of tickets

pub nat_same : (n : ℕ) → nat_eq n n ≡ true
nat_same n = grind (arith, nat_tests)

pub nat_decides : (a b : ℕ) → nat_eq a b ≡ true → a ≡ b
nat_decides a b h = grind (arith, nat_tests)

pub ends-last : (t : ℕ) (xs : List ℕ) → ends_with t (xs ++ t ∷ []) ≡ true
ends-last t [] = nat_same t
ends-last t (x ∷ []) = nat_same t
ends-last t (x ∷ (y ∷ xs)) = ends-last t (y ∷ xs)

pub last-new : (t : ℕ) (xs : List ℕ) → ends_with t xs ≡ false → with_last t xs ≡ xs ++ t ∷ []
last-new t xs h = ap (λ (b : Bool). cond b xs (xs ++ t ∷ [])) h

pub last-again : (t : ℕ) (xs : List ℕ) → with_last t (xs ++ t ∷ []) ≡ xs ++ t ∷ []
last-again t xs = ap (λ (b : Bool). cond b (xs ++ t ∷ []) ((xs ++ t ∷ []) ++ t ∷ [])) (ends-last t xs)

pub without-twice : (t : ℕ) (xs : List ℕ) → without t (without t xs) ≡ without t xs
without-twice t [] = refl
without-twice t (x ∷ xs) = go (nat_eq x t) refl (without-twice t xs) where
  go : (b : Bool) → nat_eq x t ≡ b → without t (without t xs) ≡ without t xs
      → without t (cond (not b) (x ∷ without t xs) (without t xs)) ≡ cond (not b) (x ∷ without t xs) (without t xs)
  go true e h = h
  go false e h = ap (λ (b : Bool). cond (not b) (x ∷ without t (without t xs)) (without t (without t xs))) e ∙ ap (λ (u : List ℕ). x ∷ u) h

all_left : (n t : ℕ) (xs : List ℕ) → AllByRecursion (λ y. n < y) xs → AllByRecursion (λ y. n < y) (without t xs)
all_left n t [] h = tt
all_left n t (x ∷ xs) h = go (nat_eq x t) (all_left n t xs h.1) where
  go : (b : Bool) → AllByRecursion (λ y. n < y) (without t xs) → AllByRecursion (λ y. n < y) (cond (not b) (x ∷ without t xs) (without t xs))
  go true more = more
  go false more = (h.0, more)

pub rising-without : (t : ℕ) (xs : List ℕ) → IsRising xs → IsRising (without t xs)
rising-without t [] h = tt
rising-without t (x ∷ xs) h = go (nat_eq x t) (rising-without t xs h.1) where
  go : (b : Bool) → IsRising (without t xs) → IsRising (cond (not b) (x ∷ without t xs) (without t xs))
  go true more = more
  go false more = (all_left x t xs h.0, more)

pub rising-left : (b : Bool) (t : ℕ) (xs : List ℕ) → IsRising xs → IsRising (without_if b t xs)
rising-left true t xs h = rising-without t xs h
rising-left false t xs h = h
