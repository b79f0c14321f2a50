-- The changes of verdicts, by the places of the verdicts that differ.
use Rattle.std.proofs.Common.{◌≡◌, ℕ, zero, suc, ◌+◌, ◌<◌, ◌≤◌, Bool, true, false, not, cond, List, [], ◌∷◌, ◌++◌, length, map, take, refl, sym, ap, ◌∙◌, append_assoc, arith}
use Rattle.std.specs.Prelude.{slice_get, Option, Some, None, option_map}
use Rattle.std.specs.List.{cons_option}
use Rattle.cpe_rows.specs.Truth.{same_truth}
use Rattle.cpe_rows.specs.Changes.{change, differing}
use Rattle.cpe_rows.specs.declared.reply.Changed.{Changed}
use Rattle.cpe_rows.specs.declared.truth.Truth.{Truth}
use Rattle.cpe_rows.specs.declared.truth.Truth.TheVariants.{True, False, Error, Unknown}
use Rattle.statement_rows.specs.State.{State, StatementRow, change_at, changed_places, places_where}

either_way : (a b : Truth) → same_truth a b ≡ same_truth b a
either_way True True = refl
either_way True False = refl
either_way True Error = refl
either_way True Unknown = refl
either_way False True = refl
either_way False False = refl
either_way False Error = refl
either_way False Unknown = refl
either_way Error True = refl
either_way Error False = refl
either_way Error Error = refl
either_way Error Unknown = refl
either_way Unknown True = refl
either_way Unknown False = refl
either_way Unknown Error = refl
either_way Unknown Unknown = refl

after_one : (n : ℕ) → suc n ≡ n + 1
after_one n = omega arith

module _ {X : Type 0} (before now : X → Truth) where
  abbrev differ : X → Bool
  differ x = not (same_truth (now x) (before x))

  -- the elements from the n-th place on are these
  pub changes_from : (get : ℕ → Option X) (n : ℕ) (xs : List X) → ((i : ℕ) → get (n + i) ≡ slice_get xs i)
      → map (λ k. change k (option_map before (get k)) (option_map now (get k))) (places_where differ n xs) ≡ differing n (map before xs) (map now xs)
  changes_from get n [] at = refl
  changes_from get n (x ∷ xs) at =
      let more = changes_from get (suc n) xs (λ i. let same : suc n + i ≡ n + suc i = omega arith in ap get same ∙ at (suc i)) in
      ap (λ (b : Bool). map one (cond (not b) (n ∷ places_where differ (suc n) xs) (places_where differ (suc n) xs))) (either_way (now x) (before x))
      ∙ go (same_truth (before x) (now x)) (more ∙ ap (λ (m : ℕ). differing m (map before xs) (map now xs)) (after_one n))
    where
      one : ℕ → Changed
      one k = change k (option_map before (get k)) (option_map now (get k))

      here : get n ≡ Some x
      here = let same : n ≡ n + 0 = omega arith in ap get same ∙ at 0

      go : (b : Bool) → map one (places_where differ (suc n) xs) ≡ differing (n + 1) (map before xs) (map now xs)
          → map one (cond (not b) (n ∷ places_where differ (suc n) xs) (places_where differ (suc n) xs))
          ≡ cond b (differing (n + 1) (map before xs) (map now xs)) (change n (Some (before x)) (Some (now x)) ∷ differing (n + 1) (map before xs) (map now xs))
      go true h = h
      go false h = λ i. change n (option_map before (here i)) (option_map now (here i)) ∷ h i

pub changes_are : (b : State) → map (change_at b) (changed_places b) ≡ differing 0 (map (λ j. j.known) b.rows) (map (λ (j : StatementRow). j.verdict) b.rows)
changes_are b = changes_from (λ j. j.known) (λ (j : StatementRow). j.verdict) (slice_get b.rows) 0 b.rows (λ i. let same : 0 + i ≡ i = omega arith in ap (slice_get b.rows) same)

-- ---- one change after the other

module _ {X : Type 0} (p : X → Bool) where
  pub few_places : (n : ℕ) (xs : List X) → length (places_where p n xs) ≤ length xs
  few_places n [] = omega arith
  few_places n (x ∷ xs) = go (p x) (few_places (suc n) xs) where
    go : (b : Bool) → length (places_where p (suc n) xs) ≤ length xs → length (cond b (n ∷ places_where p (suc n) xs) (places_where p (suc n) xs)) ≤ suc (length xs)
    go true h = omega (arith, h)
    go false h = omega (arith, h)

  pub place_within : (n : ℕ) (xs : List X) (j k : ℕ) → slice_get (places_where p n xs) j ≡ Some k → k < n + length xs
  place_within n [] j k h = absurd (let wrong : None ≡ Some k = h in cc)
  place_within n (x ∷ xs) j k h = go (p x) j h (place_within (suc n) xs) where
    go : (b : Bool) (j : ℕ) → slice_get (cond b (n ∷ places_where p (suc n) xs) (places_where p (suc n) xs)) j ≡ Some k
        → ((j k : ℕ) → slice_get (places_where p (suc n) xs) j ≡ Some k → k < suc n + length xs) → k < n + suc (length xs)
    go true zero h more = let same : n ≡ k = cc h in omega (arith, same)
    go true (suc j) h more = let lt = more j k h in omega (arith, lt)
    go false j h more = let lt = more j k h in omega (arith, lt)

take_over : {X : Type 0} (xs : List X) (i : ℕ) → length xs ≤ i → take i xs ≡ xs
take_over [] zero h = refl
take_over [] (suc i) h = refl
take_over (x ∷ xs) zero h = absurd (omega (arith, h))
take_over (x ∷ xs) (suc i) h = ap (λ ys. x ∷ ys) (take_over xs i (omega (arith, h)))

module _ {X Y : Type 0} (f : X → Y) where
  one_more : (xs : List X) (i : ℕ) → map f (take (suc i) xs) ≡ map f (take i xs) ++ cons_option (option_map f (slice_get xs i)) []
  one_more [] zero = refl
  one_more [] (suc i) = refl
  one_more (x ∷ xs) zero = refl
  one_more (x ∷ xs) (suc i) = ap (λ (ys : List Y). f x ∷ ys) (one_more xs i)

  next_put : (xs : List X) (i : ℕ) → map f (take (i + 1) xs) ≡ map f (take i xs) ++ cons_option (option_map f (slice_get xs i)) []
  next_put xs i = ap (λ (k : ℕ). map f (take k xs)) (sym (after_one i)) ∙ one_more xs i

  pub put_more : (xs : List X) (i : ℕ) (o : Option Y) (old done next : List Y) → o ≡ option_map f (slice_get xs i) → done ≡ old ++ map f (take i xs)
      → next ≡ done ++ cons_option o [] → next ≡ old ++ map f (take (i + 1) xs)
  put_more xs i o old done next this before more =
      more
      ∙ ((λ j. before j ++ cons_option (this j) [])
      ∙ (append_assoc old (map f (take i xs)) (cons_option (option_map f (slice_get xs i)) []) ∙ ap (λ (ys : List Y). old ++ ys) (sym (next_put xs i))))

  -- how many there are, and the place of one of them
  pub put_all : (xs : List X) (i : ℕ) (old done : List Y) → length xs ≤ i → done ≡ old ++ map f (take i xs) → done ≡ old ++ map f xs
  put_all xs i old done all h = h ∙ ap (λ (ys : List X). old ++ map f ys) (take_over xs i all)
