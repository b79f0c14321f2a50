-- Rising lists of tickets, and these lists with a ticket more or a ticket less.
use Rattle.std.specs.Prelude.{ℕ, Bool, true, false, not, cond, nat_eq, slice_get, List, [], ◌∷◌, ◌++◌}
use Rattle.std.specs.List.{filter}
use Rattle.std.specs.Option.{option_map_or}

-- the list without the ticket
abbrev pub without : ℕ → List ℕ → List ℕ
without t xs = filter (λ x. not (nat_eq x t)) xs

-- the ticket is the last one
abbrev pub ends_with : ℕ → List ℕ → Bool
ends_with t [] = false
ends_with t (x ∷ []) = nat_eq x t
ends_with t (x ∷ (y ∷ ys)) = ends_with t (y ∷ ys)

-- the list with the ticket at its end, unless it ends with it already
abbrev pub with_last : ℕ → List ℕ → List ℕ
with_last t xs = cond (ends_with t xs) xs (xs ++ t ∷ [])

-- the ticket is at the place
abbrev pub is_at : List ℕ → ℕ → ℕ → Bool
is_at xs k t = option_map_or (λ x. nat_eq x t) (slice_get xs k) false

-- the list has no ticket
abbrev pub is_empty : List ℕ → Bool
is_empty [] = true
is_empty (x ∷ xs) = false
