-- Lemmas: which certificates of a logical test's children are chosen.
use Rattle.std.proofs.Common.{◌≡◌, ◌⊎◌, ◌||◌, inl, inr, ℕ, suc, ◌+◌, ◌-◌, ◌≤◌, List, [], ◌∷◌, ◌++◌, Bool, true, false, not, cond, Option, Some, None, map, option_map, length, replicate, take, is_some, slice_get, if◌then◌else◌, refl, ap, sym, ◌∙◌, subst, arith}
use Rattle.std.specs.List.{list_any, list_all, position_or_len}
use Rattle.std.proofs.lemmas.Bool.{true≢false}
use Rattle.std.proofs.lemmas.List.{length-map, map-append}
use Rattle.std.proofs.lemmas.List.Folds.{find_at}
use Rattle.std.proofs.lemmas.Option.{slice_get-map, slice_get_past}
use Rattle.cpe_rows.specs.Reach.{Among}
use Rattle.cpe_rows.specs.Evaluation.{joined, negated}
use Rattle.cpe_rows.specs.declared.test.Operator.{Operator}
use Rattle.cpe_rows.proofs.Paths.{some_element}
use Rattle.certificate_check.specs.Certificates.{given_truth, given_truths}
use Rattle.certificate_check.specs.Good.{deciding, AreGood, IsOfAll, IsOfOne}
use Rattle.certificate_check.specs.declared.certificate.Why.{Why}
use Rattle.certificate_check.proofs.Elements.{same_some}
use Rattle.certificate_check.proofs.Levels.{truth_decides}
use Rattle.certificate_check.proofs.Right.{decided}
use Rattle.certificate_check.proofs.Loops.{take_at, take_past}
use Rattle.certificate_check.proofs.TraceEnds.{mapped}
use Rattle.certificate_search.specs.Choices.{decides, first_alone, chosen}
use Rattle.certificate_search.proofs.Firsts.{some_found}

-- ---- the first element that passes

module _ {A : Type 0} (q : A → Bool) where
  abbrev nothing : Option A
  nothing = None

  nothing_else : (xs : List A) → map (λ (y : A). nothing) xs ≡ replicate (length xs) nothing
  nothing_else [] = refl
  nothing_else (x ∷ xs) = ap (λ os. None ∷ os) (nothing_else xs)

  alone_at : (xs : List A) (k : ℕ) (x : A) → position_or_len q xs ≡ k → slice_get xs k ≡ Some x
      → first_alone q xs ≡ replicate k None ++ (Some x ∷ replicate (length xs - k - 1) None)
  alone_at [] k x e at = absurd (let w : ⊥ = cc in w)
  alone_at (y ∷ xs) k x e at = go (q y) e (alone_at xs) where
    go : (b : Bool) → cond (not b) (1 + position_or_len q xs) 0 ≡ k
        → ((j : ℕ) (z : A) → position_or_len q xs ≡ j → slice_get xs j ≡ Some z → first_alone q xs ≡ replicate j None ++ (Some z ∷ replicate (length xs - j - 1) None))
        → (if b then Some y ∷ map (λ z. None) xs else None ∷ first_alone q xs) ≡ replicate k None ++ (Some x ∷ replicate (suc (length xs) - k - 1) None)
    go true h later =
        let same : y ≡ x = same_some y x (subst (λ j. slice_get (y ∷ xs) j ≡ Some x) (sym h) at) in
        let all : length xs ≡ suc (length xs) - 0 - 1 = omega arith in
        subst (λ j. (Some y ∷ map (λ z. None) xs) ≡ replicate j None ++ (Some x ∷ replicate (suc (length xs) - j - 1) None)) h
        (λ i. Some (same i) ∷ (nothing_else xs ∙ ap (λ (m : ℕ). replicate m nothing) all) i)
    go false h later =
        let j = position_or_len q xs in
        let first : 1 + j ≡ suc j = omega arith in
        let there : slice_get xs j ≡ Some x = subst (λ m. slice_get (y ∷ xs) m ≡ Some x) (sym h ∙ first) at in
        let fewer : suc (length xs) - suc j - 1 ≡ length xs - j - 1 = omega arith in
        subst (λ m. (None ∷ first_alone q xs) ≡ replicate m None ++ (Some x ∷ replicate (suc (length xs) - m - 1) None)) (sym first ∙ h)
        (ap (λ os. None ∷ os) (later j x refl there ∙ ap (λ (m : ℕ). replicate j None ++ (Some x ∷ replicate m None)) (sym fewer)))

  some_at : (xs : List A) (k : ℕ) (x : A) → position_or_len q xs ≡ k → slice_get xs k ≡ Some x → list_any q xs ≡ true
  some_at xs k x e at = sym (some_found q xs) ∙ ap is_some (find_at q xs ∙ (ap (slice_get xs) e ∙ at))

  none_at : (xs : List A) (k : ℕ) → position_or_len q xs ≡ k → slice_get xs k ≡ None → list_any q xs ≡ false
  none_at xs k e at = sym (some_found q xs) ∙ ap is_some (find_at q xs ∙ (ap (slice_get xs) e ∙ at))

first_map : {A B : Type 0} (p : B → Bool) (f : A → B) (xs : List A) → position_or_len p (map f xs) ≡ position_or_len (λ x. p (f x)) xs
first_map p f [] = refl
first_map p f (x ∷ xs) = let rest = first_map p f xs in λ i. cond (not (p (f x))) (1 + rest i) 0

-- ---- children whose certificates are made

given_all : (ws : List Why) → given_truths (map Some ws) ≡ map given_truth ws
given_all [] = refl
given_all (w ∷ ws) = ap (λ ts. given_truth w ∷ ts) (given_all ws)

pub some_decides : (operator : Operator) (ws : List Why) → list_any (decides operator) ws ≡ true
    → joined operator (map given_truth ws) ≡ deciding operator
some_decides operator ws h =
    let w = some_element (decides operator) ws h in
    let m : Among (map given_truth ws) (given_truth w.0) = mapped given_truth ws w.0 w.1 in
    decided operator (map given_truth ws) (subst (Among (map given_truth ws)) (sym ((truth_decides (deciding operator) (given_truth w.0)).0 w.2)) m)

module _ {X : Type 0} (operator : Operator) (made : X → Why) (p : X → Bool) (same : (x : X) → decides operator (made x) ≡ p x) where
  place_is : (xs : List X) → position_or_len (decides operator) (map made xs) ≡ position_or_len p xs
  place_is xs = first_map (decides operator) made xs ∙ ap (λ (t : X → Bool). position_or_len t xs) (λ i x. same x i)

  there_is : (xs : List X) (k : ℕ) (o : Option X) → slice_get xs k ≡ o → slice_get (map made xs) k ≡ option_map made o
  there_is xs k o at = slice_get-map made xs k ∙ ap (option_map made) at

  -- lemma: the choice if a child decides
  pub chosen_one : (xs : List X) (k : ℕ) (x : X) → k ≡ position_or_len p xs → slice_get xs k ≡ Some x
      → chosen operator (map made xs) ≡ replicate k None ++ (Some (made x) ∷ replicate (length xs - k - 1) None)
  chosen_one xs k x e at =
      let place : position_or_len (decides operator) (map made xs) ≡ k = place_is xs ∙ sym e in
      let there : slice_get (map made xs) k ≡ Some (made x) = there_is xs k (Some x) at in
      ap (λ (b : Bool). if b then first_alone (decides operator) (map made xs) else map Some (map made xs)) (some_at (decides operator) (map made xs) k (made x) place there)
      ∙ (alone_at (decides operator) (map made xs) k (made x) place there
      ∙ ap (λ (n : ℕ). replicate k None ++ (Some (made x) ∷ replicate (n - k - 1) None)) (length-map xs made))

  pub joined_one : (xs : List X) (k : ℕ) (x : X) → k ≡ position_or_len p xs → slice_get xs k ≡ Some x
      → joined operator (map given_truth (map made xs)) ≡ deciding operator
  joined_one xs k x e at =
      some_decides operator (map made xs) (some_at (decides operator) (map made xs) k (made x) (place_is xs ∙ sym e) (there_is xs k (Some x) at))

  -- lemma: the choice if no child decides
  pub chosen_all : (xs : List X) (k : ℕ) → k ≡ position_or_len p xs → slice_get xs k ≡ None → chosen operator (map made xs) ≡ map Some (map made xs)
  chosen_all xs k e at =
      ap (λ (b : Bool). if b then first_alone (decides operator) (map made xs) else map Some (map made xs))
      (none_at (decides operator) (map made xs) k (place_is xs ∙ sym e) (there_is xs k None at))

  pub joined_all : (xs : List X) → joined operator (given_truths (map Some (map made xs))) ≡ joined operator (map given_truth (map made xs))
  joined_all xs = ap (joined operator) (given_all (map made xs))

-- ---- what is chosen is good

module _ {X : Type 0} (good : X → Why → Type 0) (made : X → Why) (right : (x : X) → good x (made x)) where
  nothing_good : (xs : List X) → AreGood good xs (map (λ (w : Why). None) (map made xs))
  nothing_good [] = tt
  nothing_good (x ∷ xs) = nothing_good xs

  alone_good : (q : Why → Bool) (xs : List X) → AreGood good xs (first_alone q (map made xs))
  alone_good q [] = tt
  alone_good q (x ∷ xs) = go (q (made x)) (alone_good q xs) where
    go : (b : Bool) → AreGood good xs (first_alone q (map made xs))
        → AreGood good (x ∷ xs) (if b then Some (made x) ∷ map (λ w. None) (map made xs) else None ∷ first_alone q (map made xs))
    go true later = (right x, nothing_good xs)
    go false later = later

  all_good : (xs : List X) → AreGood good xs (map Some (map made xs))
  all_good [] = tt
  all_good (x ∷ xs) = (right x, all_good xs)

  all_some : (ws : List Why) → list_all is_some (map (λ (w : Why). Some w) ws) ≡ true
  all_some [] = refl
  all_some (w ∷ ws) = all_some ws

  alone_given : (operator : Operator) (ws : List Why) → list_any (decides operator) ws ≡ true
      → Among (given_truths (first_alone (decides operator) ws)) (deciding operator)
  alone_given operator [] h = absurd (true≢false (sym h))
  alone_given operator (w ∷ ws) h = go (decides operator w) refl h (alone_given operator ws) where
    go : (b : Bool) → decides operator w ≡ b → (b || list_any (decides operator) ws) ≡ true
        → (list_any (decides operator) ws ≡ true → Among (given_truths (first_alone (decides operator) ws)) (deciding operator))
        → Among (given_truths (if b then Some w ∷ map (λ v. None) ws else None ∷ first_alone (decides operator) ws)) (deciding operator)
    go true t k later = inl (sym ((truth_decides (deciding operator) (given_truth w)).0 t))
    go false t k later = later k

  abbrev Settled : Operator → Bool → List Why → List (Option Why) → Type 0
  Settled operator negate ws of =
      IsOfAll operator negate (negated negate (joined operator (map given_truth ws))) of
      ⊎ IsOfOne operator negate (negated negate (joined operator (map given_truth ws))) of

  pub chosen_good : (operator : Operator) (negate : Bool) (xs : List X)
      → AreGood good xs (chosen operator (map made xs)) × Settled operator negate (map made xs) (chosen operator (map made xs))
  chosen_good operator negate xs = go (list_any (decides operator) (map made xs)) refl where
    ws : List Why
    ws = map made xs

    go : (b : Bool) → list_any (decides operator) ws ≡ b
        → AreGood good xs (if b then first_alone (decides operator) ws else map Some ws)
        × Settled operator negate ws (if b then first_alone (decides operator) ws else map Some ws)
    go true h = (alone_good (decides operator) xs, inr (alone_given operator ws h, ap (negated negate) (some_decides operator ws h)))
    go false h = (all_good xs, inl (all_some ws, ap (λ ts. negated negate (joined operator ts)) (sym (given_all ws))))

-- ---- a loop over the children

pub none_past : {A : Type 0} (xs : List A) (k : ℕ) → length xs ≤ k → slice_get xs k ≡ None
none_past xs k past = slice_get_past xs k past

module _ {X : Type 0} (made : X → Why) (xs : List X) (i : ℕ) where
  -- the certificates that the loop has made so far
  abbrev pub so_far : List (Option Why)
  so_far = map Some (map made (take i xs))

  pub one_more : (x : X) → slice_get xs i ≡ Some x → so_far ++ Some (made x) ∷ [] ≡ map Some (map made (take (i + 1) xs))
  one_more x at =
      sym (ap (λ (ys : List X). map Some (map made ys)) (take_at xs i x at)
      ∙ (ap (map Some) (map-append made (take i xs) (x ∷ [])) ∙ map-append Some (map made (take i xs)) (made x ∷ [])))

  pub all_made : slice_get xs i ≡ None → so_far ≡ map Some (map made xs)
  all_made past = ap (λ (ys : List X). map Some (map made ys)) (take_past xs i past)
