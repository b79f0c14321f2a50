-- Items by their slots. Some slots may be empty.
use Rattle.std.proofs.Common.{◌≡◌, ℕ, zero, suc, ◌+◌, ◌-◌, ◌<◌, ◌≤◌, List, [], ◌∷◌, Bool, true, false, cond, Option, Some, None, find, filter_map, drop, get_or, length, slice_get, refl, ap, sym, ◌∙◌, arith}
use Rattle.std.proofs.lemmas.List.{drop_all}

module _ {A : Type 0} where
  abbrev pub held : List (Option A) → List A
  held slots = filter_map (λ (slot : Option A). slot) slots

  -- the items in the slots from this slot on
  pub held_some : (slots : List (Option A)) (i : ℕ) (x : A) → i < length slots → get_or slots i None ≡ Some x
      → held (drop i slots) ≡ x ∷ held (drop (i + 1) slots)
  held_some slots i x h e = rw one (go slots i h e) where
    one : i + 1 ≡ suc i
    one = omega arith

    go : (slots : List (Option A)) (i : ℕ) → i < length slots → get_or slots i None ≡ Some x → held (drop i slots) ≡ x ∷ held (drop (suc i) slots)
    go [] i h e = absurd (omega (arith, h))
    go (s ∷ slots) zero h e = ap (λ (o : Option A). held (o ∷ slots)) e
    go (s ∷ slots) (suc i) h e = go slots i (omega (arith, h)) e

  pub held_none : (slots : List (Option A)) (i : ℕ) → i < length slots → get_or slots i None ≡ None
      → held (drop i slots) ≡ held (drop (i + 1) slots)
  held_none slots i h e = rw one (go slots i h e) where
    one : i + 1 ≡ suc i
    one = omega arith

    go : (slots : List (Option A)) (i : ℕ) → i < length slots → get_or slots i None ≡ None → held (drop i slots) ≡ held (drop (suc i) slots)
    go [] i h e = absurd (omega (arith, h))
    go (s ∷ slots) zero h e = ap (λ (o : Option A). held (o ∷ slots)) e
    go (s ∷ slots) (suc i) h e = go slots i (omega (arith, h)) e

  pub held_past : (slots : List (Option A)) (i : ℕ) → length slots ≤ i → held (drop i slots) ≡ []
  held_past slots i h = ap held (drop_all i slots h)

  -- the first item that passes is in a slot from this slot on
  abbrev pub IsLeft : (A → Bool) → List (Option A) → ℕ → Type 0
  IsLeft p slots i = find p (held (drop i slots)) ≡ find p (held slots)

  pub left_here : (p : A → Bool) (slots : List (Option A)) (i : ℕ) (x : A) → IsLeft p slots i → i < length slots → get_or slots i None ≡ Some x
      → p x ≡ true → find p (held slots) ≡ Some x
  left_here p slots i x left h e t =
      sym left ∙ (ap (find p) (held_some slots i x h e) ∙ ap (λ b. cond b (Some x) (find p (held (drop (i + 1) slots)))) t)

  pub left_next : (p : A → Bool) (slots : List (Option A)) (i : ℕ) (x : A) → IsLeft p slots i → i < length slots → get_or slots i None ≡ Some x
      → p x ≡ false → IsLeft p slots (i + 1)
  left_next p slots i x left h e t =
      sym (ap (find p) (held_some slots i x h e) ∙ ap (λ b. cond b (Some x) (find p (held (drop (i + 1) slots)))) t) ∙ left

  pub left_over : (p : A → Bool) (slots : List (Option A)) (i : ℕ) → IsLeft p slots i → i < length slots → get_or slots i None ≡ None
      → IsLeft p slots (i + 1)
  left_over p slots i left h e = sym (ap (find p) (held_none slots i h e)) ∙ left

  pub left_none : (p : A → Bool) (slots : List (Option A)) (i : ℕ) → IsLeft p slots i → length slots ≤ i → find p (held slots) ≡ None
  left_none p slots i left h = sym left ∙ ap (find p) (held_past slots i h)

  -- the asked item is at place `left` among the items from this slot on
  abbrev pub IsNth : List (Option A) → ℕ → ℕ → ℕ → Type 0
  IsNth slots k i left = slice_get (held (drop i slots)) left ≡ slice_get (held slots) k

  pub nth_here : (slots : List (Option A)) (k i left : ℕ) (x : A) → IsNth slots k i left → i < length slots → get_or slots i None ≡ Some x
      → left ≡ 0 → slice_get (held slots) k ≡ Some x
  nth_here slots k i left x nth h e z =
      sym nth ∙ ((λ j. slice_get (held_some slots i x h e j) left) ∙ ap (slice_get (x ∷ held (drop (i + 1) slots))) z)

  pub nth_next : (slots : List (Option A)) (k i left : ℕ) (x : A) → IsNth slots k i left → i < length slots → get_or slots i None ≡ Some x
      → (left ≡ 0 → ⊥) → IsNth slots k (i + 1) (left - 1)
  nth_next slots k i left x nth h e z =
      let more : left ≡ suc (left - 1) = omega (arith, z) in
      sym ((λ j. slice_get (held_some slots i x h e j) left) ∙ ap (slice_get (x ∷ held (drop (i + 1) slots))) more) ∙ nth

  pub nth_over : (slots : List (Option A)) (k i left : ℕ) → IsNth slots k i left → i < length slots → get_or slots i None ≡ None
      → IsNth slots k (i + 1) left
  nth_over slots k i left nth h e = sym (ap (λ (xs : List A). slice_get xs left) (held_none slots i h e)) ∙ nth

  pub nth_none : (slots : List (Option A)) (k i left : ℕ) → IsNth slots k i left → length slots ≤ i → slice_get (held slots) k ≡ None
  nth_none slots k i left nth h = sym nth ∙ ap (λ (xs : List A). slice_get xs left) (held_past slots i h)

  -- if no slot is empty
  held_few : (slots : List (Option A)) → length (held slots) ≤ length slots
  held_few [] = omega arith
  held_few (None ∷ slots) = let rest = held_few slots in omega (arith, rest)
  held_few (Some x ∷ slots) = let rest = held_few slots in omega (arith, rest)

  pub full_at : (slots : List (Option A)) (k : ℕ) → length slots ≡ length (held slots) → get_or slots k None ≡ slice_get (held slots) k
  full_at [] zero e = refl
  full_at [] (suc k) e = refl
  full_at (None ∷ slots) k e = let few = held_few slots in absurd (omega (arith, e, few))
  full_at (Some x ∷ slots) zero e = refl
  full_at (Some x ∷ slots) (suc k) e = full_at slots k (omega (arith, e))
