-- Reachability along edges between the elements of a list: by a test, and by paths.
use Rattle.std.specs.Prelude.{◌≡◌, ℕ, zero, suc, ◌||◌, ◌&&◌, ◌⊎◌, List, [], ◌∷◌, Bool, true, length}
use Rattle.std.specs.List.{list_any}

-- The element is in the list.
abbrev pub Among : {A : Type 0} → List A → A → Type 0
Among [] b = ⊥
Among (x ∷ xs) b = (x ≡ b) ⊎ Among xs b

module _ {A : Type 0} (edge : A → A → Bool) (all : List A) (start : A → Bool) where
  -- The element is reached from a start by at most n edges.
  abbrev pub reached : ℕ → A → Bool
  reached zero b = start b
  reached (suc n) b = reached n b || list_any (λ a. reached n a && edge a b) all

  -- The element is reached. A path without repetition has no more edges than there are elements, so `length all` edges
  -- are enough.
  abbrev pub is_reached : A → Bool
  is_reached = reached (length all)

  -- A path leads from a start to b through these elements, which are in reverse order.
  abbrev pub Leads : List A → A → Type 0
  Leads [] b = start b ≡ true
  Leads (a ∷ before) b = Among all a × (edge a b ≡ true) × Leads before a

  -- The test is true exactly if a path exists.
  abbrev pub IsDecided : Type 0
  IsDecided = (b : A) → Among all b → (is_reached b ≡ true → (before : List A) × Leads before b) × ((before : List A) → Leads before b → is_reached b ≡ true)
