-- Lemmas: the weight of a list after a row is added, removed or changed.
use Rattle.std.proofs.Common.{◌≡◌, ◌≤◌, ℕ, ◌+◌, List, [], ◌∷◌, ◌++◌, map, Bool, true, false, cond, ◌||◌, Some, refl, arith}
use Rattle.std.specs.Prelude.{find}
use Rattle.std.specs.Option.{option_map_or}
use Rattle.std.specs.List.{list_any}
use Rattle.cpe_rows.specs.cpe_name.Eleven.{Values}
use Rattle.cpe_rows.specs.Rows.{is_named, has_key}
use Rattle.cpe_rows.specs.After.{changed, without_first, with_check}
use Rattle.cpe_rows.specs.Weight.{total_weight, key_weight, check_weight}
use Rattle.cpe_rows.specs.declared.entry.Entry.{Entry}
use Rattle.cpe_rows.specs.declared.test.CheckKey.{CheckKey}
use Rattle.cpe_rows.specs.declared.truth.Truth.{Truth}
use Rattle.row_weight.specs.Gain.{weight_of_first}

module _ {A : Type 0} (w : A → ℕ) where
  pub total-added : (xs : List A) (x : A) → total_weight (map w (xs ++ x ∷ [])) ≡ total_weight (map w xs) + w x
  total-added [] x = omega arith
  total-added (y ∷ ys) x = let more = total-added ys x in omega (arith, more)

  pub total-without : (p : A → Bool) (xs : List A) → total_weight (map w (without_first p xs)) + weight_of_first w p xs ≡ total_weight (map w xs)
  total-without p [] = refl
  total-without p (x ∷ xs) = go (p x) (total-without p xs) where
    go : (b : Bool) → total_weight (map w (without_first p xs)) + weight_of_first w p xs ≡ total_weight (map w xs)
        → total_weight (map w (cond b xs (x ∷ without_first p xs))) + option_map_or w (cond b (Some x) (find p xs)) 0 ≡ w x + total_weight (map w xs)
    go true h = omega arith
    go false h = omega (arith, h)

  -- If a part of each row weighs at most as much as the row, it weighs at most as much as all rows.
  pub first-within : (part : A → ℕ) → ((a : A) → part a ≤ w a) → (p : A → Bool) (xs : List A) → weight_of_first part p xs ≤ total_weight (map w xs)
  first-within part less p [] = omega arith
  first-within part less p (x ∷ xs) = go (p x) (less x) (first-within part less p xs) where
    go : (b : Bool) → part x ≤ w x → weight_of_first part p xs ≤ total_weight (map w xs)
        → option_map_or part (cond b (Some x) (find p xs)) 0 ≤ w x + total_weight (map w xs)
    go true here rest = omega (arith, here)
    go false here rest = omega (arith, rest)

  -- If all rows that pass weigh m, the first row that passes weighs m.
  pub first-known : (p : A → Bool) (m : ℕ) → ((a : A) → p a ≡ true → w a ≡ m) → (xs : List A) → list_any p xs ≡ true → weight_of_first w p xs ≡ m
  first-known p m same [] h = let wrong : ⊥ = cc in absurd wrong
  first-known p m same (x ∷ xs) h = go (p x) (same x) h (first-known p m same xs) where
    go : (b : Bool) → (b ≡ true → w x ≡ m) → (b || list_any p xs) ≡ true → (list_any p xs ≡ true → weight_of_first w p xs ≡ m)
        → option_map_or w (cond b (Some x) (find p xs)) 0 ≡ m
    go true one there later = one refl
    go false one there later = later there

-- If an entry is changed, the total weight changes as much as the entry's weight.
pub total-changed : (w : Entry → ℕ) (f : Entry → Entry) (lost : Entry → ℕ) (gained : ℕ) → ((e : Entry) → w (f e) + lost e ≡ w e + gained)
    → (n : Values) (es : List Entry)
    → total_weight (map w (changed f n es)) + weight_of_first lost (is_named n) es ≡ total_weight (map w es) + cond (list_any (is_named n) es) gained 0
total-changed w f lost gained one n [] = refl
total-changed w f lost gained one n (e ∷ es) = go (is_named n e) (list_any (is_named n) es) (total-changed w f lost gained one n es) where
  go : (b there : Bool) → total_weight (map w (changed f n es)) + weight_of_first lost (is_named n) es ≡ total_weight (map w es) + cond there gained 0
      → total_weight (map w (cond b (f e ∷ es) (e ∷ changed f n es))) + option_map_or lost (cond b (Some e) (find (is_named n) es)) 0
      ≡ (w e + total_weight (map w es)) + cond (b || there) gained 0
  go true there h = let here = one e in omega (arith, here)
  go false there h = omega (arith, h)

-- Setting the result of a kept key doesn't change the weight.
pub total-checked : (k : CheckKey) (t : Truth) (cs : List (CheckKey × Truth))
    → total_weight (map check_weight (with_check k t cs)) ≡ total_weight (map check_weight cs) + cond (list_any (has_key k) cs) 0 (key_weight k)
total-checked k t [] = omega arith
total-checked k t (c ∷ cs) = go (has_key k c) (list_any (has_key k) cs) (total-checked k t cs) where
  go : (b there : Bool) → total_weight (map check_weight (with_check k t cs)) ≡ total_weight (map check_weight cs) + cond there 0 (key_weight k)
      → total_weight (map check_weight (cond b ((c.0, t) ∷ cs) (c ∷ with_check k t cs)))
      ≡ (check_weight c + total_weight (map check_weight cs)) + cond (b || there) 0 (key_weight k)
  go true there h = omega arith
  go false there h = omega (arith, h)
