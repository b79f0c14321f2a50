-- Rising lists of tickets, with a ticket or without it on a condition.
use Rattle.std.specs.Prelude.{ℕ, suc, ◌<◌, Bool, cond, nat_eq, List, [], ◌∷◌, ◌++◌, Option, Some, None}
use Rattle.std.specs.List.{AllByRecursion, list_any}
use Rattle.std.specs.Option.{option_map}
use Rattle.ticket_list.specs.Rising.{IsRising}
use Rattle.ticket_list.specs.Tickets.{with_last, without}

-- the list rises, and each of its tickets is below this one
abbrev pub IsBelow : ℕ → List ℕ → Type 0
IsBelow t xs = IsRising xs × AllByRecursion (λ x. x < t) xs

-- the place of the first element that passes
abbrev pub first_place : {X : Type 0} → (X → Bool) → List X → Option ℕ
first_place p [] = None
first_place p (x ∷ xs) = cond (p x) (Some 0) (option_map suc (first_place p xs))

-- the ticket is in the list
abbrev pub among : List ℕ → ℕ → Bool
among ts t = list_any (λ x. nat_eq x t) ts

-- the list without the ticket if the condition holds, or else the whole list
abbrev pub without_if : Bool → ℕ → List ℕ → List ℕ
without_if b t xs = cond b (without t xs) xs

-- the list with the ticket at its end if the condition holds, or else the whole list
abbrev pub with_if : Bool → ℕ → List ℕ → List ℕ
with_if b t xs = cond b (xs ++ t ∷ []) xs

-- the list that ends with the ticket if the condition holds, or else the whole list
abbrev pub with_last_if : Bool → ℕ → List ℕ → List ℕ
with_last_if b t xs = cond b (with_last t xs) xs
