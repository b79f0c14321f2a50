-- A list of numbers, and a test that holds for a prefix of the list.
use Rattle.std.specs.Prelude.{◌≡◌, ℕ, Bool, true, false, List, [], ◌∷◌, ◌++◌}
use Rattle.std.specs.List.{AllByRecursion}

-- the numbers as contracts see them, and whether memory for one number more is reserved
pub record Numbers : Type 0 where
  pub items : List ℕ
  pub ready : Bool

abbrev pub AllAre : {X : Type 0} → (X → Bool) → Bool → List X → Type 0
AllAre p answer xs = AllByRecursion (λ x. p x ≡ answer) xs

-- After an element that fails the test, all elements fail.
abbrev pub IsParted : {X : Type 0} → (X → Bool) → List X → Type 0
IsParted p [] = Unit {0}
IsParted p (x ∷ xs) = (p x ≡ false → AllAre p false xs) × IsParted p xs

-- A number was inserted after the numbers that pass, and before the numbers that fail.
pub record IsPut (p : ℕ → Bool) (number : ℕ) (old new : List ℕ) : Type 0 where
  pub front : List ℕ
  pub back : List ℕ
  pub whole : old ≡ front ++ back
  pub passing : AllAre p true front
  pub failing : AllAre p false back
  pub put : new ≡ front ++ (number ∷ back)

-- A number was removed from the list.
pub record RemovesNumber (number : ℕ) (old new : List ℕ) : Type 0 where
  pub front : List ℕ
  pub back : List ℕ
  pub whole : old ≡ front ++ (number ∷ back)
  pub left : new ≡ front ++ back
