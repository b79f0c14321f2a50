-- Lemmas: an element that is reached at all is reached by as many edges as there are elements, or fewer.
use Rattle.std.proofs.Common.{◌≡◌, ℕ, ◌+◌, ◌<◌, ◌≤◌, zero, suc, ◌||◌, ◌&&◌, ◌⊎◌, inl, inr, List, [], ◌∷◌, Bool, true, false, length, if◌then◌else◌, refl, ap, sym, ◌∙◌, arith}
use Rattle.std.specs.List.{list_any}
use Rattle.std.proofs.lemmas.Bool.{or_left, or_right, or_cases, and_from, and_parts}
use Rattle.cpe_rows.specs.Reach.{reached, Among, Leads, IsDecided}

module _ {A : Type 0} (edge : A → A → Bool) (all : List A) (start : A → Bool) where
  abbrev r : ℕ → A → Bool
  r = reached edge all start

  -- Two tests have the same results for the elements of a list.
  abbrev Same : (A → Bool) → (A → Bool) → List A → Type 0
  Same p q xs = (b : A) → Among xs b → p b ≡ q b

  abbrev count : (A → Bool) → List A → ℕ
  count p [] = 0
  count p (x ∷ xs) = (if p x then 1 else 0) + count p xs

  count_le : (p : A → Bool) (xs : List A) → count p xs ≤ length xs
  count_le p [] = omega arith
  count_le p (x ∷ xs) = one (p x) (count p xs) (count_le p xs) where
    one : (b : Bool) (n : ℕ) → n ≤ length xs → (if b then 1 else 0) + n ≤ suc (length xs)
    one true n h = omega arith
    one false n h = omega arith

  -- If q passes all that p passes, then both pass the same elements of a list, or q passes more of them.
  grew : (p q : A → Bool) → ((b : A) → p b ≡ true → q b ≡ true) → (xs : List A) → Same p q xs ⊎ (count p xs < count q xs)
  grew p q more [] = inl (λ b h. absurd h)
  grew p q more (x ∷ xs) = go (p x) (q x) refl refl (grew p q more xs) (below xs) where
    below : (ys : List A) → count p ys ≤ count q ys
    below [] = omega arith
    below (y ∷ ys) = each (p y) (q y) (more y) (below ys) where
      each : (a b : Bool) → (a ≡ true → b ≡ true) → count p ys ≤ count q ys → (if a then 1 else 0) + count p ys ≤ (if b then 1 else 0) + count q ys
      each true true f h = omega arith
      each true false f h = let wrong : false ≡ true = f refl in absurd (let w : ⊥ = cc in w)
      each false true f h = omega arith
      each false false f h = omega arith

    go : (a b : Bool) → p x ≡ a → q x ≡ b → Same p q xs ⊎ (count p xs < count q xs) → count p xs ≤ count q xs
        → ((c : A) → (x ≡ c) ⊎ Among xs c → p c ≡ q c) ⊎ ((if a then 1 else 0) + count p xs < (if b then 1 else 0) + count q xs)
    go true true e f (inl s) le = inl (λ c i. elim i [ inl h ↦ (ap p (sym h) ∙ (e ∙ (sym f ∙ ap q h))) | inr h ↦ s c h ])
    go false false e f (inl s) le = inl (λ c i. elim i [ inl h ↦ (ap p (sym h) ∙ (e ∙ (sym f ∙ ap q h))) | inr h ↦ s c h ])
    go true true e f (inr lt) le = inr (omega arith)
    go false false e f (inr lt) le = inr (omega arith)
    go false true e f s le = inr (omega arith)
    go true false e f s le = let wrong : ⊥ = (let t : q x ≡ true = more x e in cc) in absurd wrong

  edges : ℕ → A → Bool
  edges n b = list_any (λ a. r n a && edge a b) all

  -- Which elements one more edge reaches depends only on the results of the test for the list's elements.
  same_any : (p q : A → Bool) (b : A) (xs : List A) → Same p q xs → list_any (λ a. p a && edge a b) xs ≡ list_any (λ a. q a && edge a b) xs
  same_any p q b [] s = refl
  same_any p q b (x ∷ xs) s = λ i. (s x (inl refl) i && edge x b) || same_any p q b xs (λ c h. s c (inr h)) i

  more : (n : ℕ) (b : A) → r n b ≡ true → r (suc n) b ≡ true
  more n b h = or_left (r n b) _ h

  still : (n : ℕ) → Same (r n) (r (suc n)) all → Same (r (suc n)) (r (suc (suc n))) all
  still n s b h = λ i. s b h i || same_any (r n) (r (suc n)) b all s i

  -- At least n elements are reached by n edges, or one edge more reaches no further element.
  filled : (n : ℕ) → (n ≤ count (r n) all) ⊎ Same (r n) (r (suc n)) all
  filled zero = inl (omega arith)
  filled (suc n) = go (filled n) (grew (r n) (r (suc n)) (more n) all) where
    go : (n ≤ count (r n) all) ⊎ Same (r n) (r (suc n)) all → Same (r n) (r (suc n)) all ⊎ (count (r n) all < count (r (suc n)) all) → (suc n ≤ count (r (suc n)) all) ⊎ Same (r (suc n)) (r (suc (suc n))) all
    go (inr s) g = inr (still n s)
    go (inl h) (inl s) = inr (still n s)
    go (inl h) (inr lt) = inl (omega arith)

  pub done : Same (r (length all)) (r (suc (length all))) all
  done = go (filled (length all)) (grew (r (length all)) (r (suc (length all))) (more (length all)) all) where
    go : (length all ≤ count (r (length all)) all) ⊎ Same (r (length all)) (r (suc (length all))) all → Same (r (length all)) (r (suc (length all))) all ⊎ (count (r (length all)) all < count (r (suc (length all))) all) → Same (r (length all)) (r (suc (length all))) all
    go (inr s) g = s
    go (inl h) (inl s) = s
    go (inl h) (inr lt) = absurd (omega (arith, count_le (r (suc (length all))) all))

  -- With as many edges as there are elements, one edge more reaches no further element.
  closed : (b : A) → Among all b → r (suc (length all)) b ≡ true → r (length all) b ≡ true
  closed b h e = done b h ∙ e

  found : (p : A → Bool) (b : A) (xs : List A) → list_any (λ a. p a && edge a b) xs ≡ true → (a : A) × Among xs a × (p a ≡ true) × (edge a b ≡ true)
  found p b [] e = let wrong : ⊥ = cc in absurd wrong
  found p b (x ∷ xs) e = go (found p b xs) (or_cases (p x && edge x b) (list_any (λ a. p a && edge a b) xs) e) where
    go : (list_any (λ a. p a && edge a b) xs ≡ true → (a : A) × Among xs a × (p a ≡ true) × (edge a b ≡ true)) → ((p x && edge x b) ≡ true) ⊎ (list_any (λ a. p a && edge a b) xs ≡ true) → (a : A) × Among (x ∷ xs) a × (p a ≡ true) × (edge a b ≡ true)
    go later (inl h) = let both = and_parts (p x) (edge x b) h in (x, inl refl, both.0, both.1)
    go later (inr h) = let rest = later h in (rest.0, inr rest.1, rest.2, rest.3)

  found_at : (p : A → Bool) (a b : A) (xs : List A) → Among xs a → p a ≡ true → edge a b ≡ true → list_any (λ a. p a && edge a b) xs ≡ true
  found_at p a b [] h e f = absurd h
  found_at p a b (x ∷ xs) (inl h) e f = or_left (p x && edge x b) _ (ap (λ y. p y && edge y b) h ∙ and_from (p a) (edge a b) e f)
  found_at p a b (x ∷ xs) (inr h) e f = or_right (p x && edge x b) _ (found_at p a b xs h e f)

  -- A path leads to each element that is reached.
  sound : (n : ℕ) (b : A) → r n b ≡ true → (before : List A) × Leads edge all start before b
  sound zero b e = ([], e)
  sound (suc n) b e = go (sound n) (or_cases (r n b) (list_any (λ a. r n a && edge a b) all) e) where
    go : ((c : A) → r n c ≡ true → (before : List A) × Leads edge all start before c) → (r n b ≡ true) ⊎ (list_any (λ a. r n a && edge a b) all ≡ true) → (before : List A) × Leads edge all start before b
    go earlier (inl h) = earlier b h
    go earlier (inr h) = let last = found (r n) b all h in let rest = earlier last.0 last.2 in (last.0 ∷ rest.0, (last.1, last.3, rest.1))

  -- Each element to which a path leads is reached.
  from_start : (n : ℕ) (b : A) → start b ≡ true → r n b ≡ true
  from_start zero b e = e
  from_start (suc n) b e = or_left (r n b) _ (from_start n b e)

  complete : (before : List A) (b : A) → Among all b → Leads edge all start before b → r (length all) b ≡ true
  complete [] b h e = from_start (length all) b e
  complete (a ∷ before) b h e = closed b h (or_right (r (length all) b) _ (found_at (r (length all)) a b all e.0 (complete before a e.0 e.2) e.1))

  pub decided : IsDecided edge all start
  decided b h = (sound (length all) b, λ before. complete before b h)
