-- Lists whose numbers rise.
use Rattle.std.specs.Prelude.{ℕ, suc, ◌<◌, Bool, nat_lt, cond, List, [], ◌∷◌}
use Rattle.std.specs.List.{AllByRecursion}

-- the number of each element is below the numbers of all elements after it
abbrev pub IsRisingBy : {X : Type 0} → (X → ℕ) → List X → Type 0
IsRisingBy number [] = Unit {0}
IsRisingBy number (x ∷ xs) = AllByRecursion (λ y. number x < number y) xs × IsRisingBy number xs

-- the numbers of the list rise
abbrev pub IsRising : List ℕ → Type 0
IsRising xs = IsRisingBy (λ x. x) xs

-- the number of elements before the first that fails the test
abbrev pub prefix : {X : Type 0} → (X → Bool) → List X → ℕ
prefix p [] = 0
prefix p (x ∷ xs) = cond (p x) (suc (prefix p xs)) 0

-- the number is inserted before the first number that isn't below it
abbrev pub put_in : ℕ → List ℕ → List ℕ
put_in t [] = t ∷ []
put_in t (x ∷ xs) = cond (nat_lt x t) (x ∷ put_in t xs) (t ∷ (x ∷ xs))
