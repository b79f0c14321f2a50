-- Lemmas about tests of a list's elements, and of lists with one element more.
use Rattle.std.proofs.Common.{◌≡◌, ◌||◌, ◌&&◌, List, [], ◌∷◌, ◌++◌, Bool, true, false, cond, not, Some, None, refl, ap, sym, ◌∙◌, inl, inr}
use Rattle.std.specs.Prelude.{ℕ, ◌<◌, ◌+◌, find, option_map, filter, is_some, length, position, slice_index_or, take}
use Rattle.std.specs.List.{All, flat_map, list_any, list_all, position_from}
use Rattle.std.proofs.lemmas.Iterator.Adapters.{position_from-zero}
use Rattle.std.proofs.lemmas.List.{append-nil, take_more}
use Rattle.std.proofs.lemmas.List.Concat.{flat_map-append}
use Rattle.std.proofs.lemmas.List.Elements.{All-append, All-same}
use Rattle.std.proofs.lemmas.Bool.{or_from, or_parts, and_from, and_parts}
use Rattle.cpe_rows.specs.Reach.{Among}
use Rattle.cpe_rows.specs.Lawful.{are_different}

module _ {A : Type 0} where
  pub no_element : (p : A → Bool) (xs : List A) → ((a : A) → Among xs a → p a ≡ false) → list_any p xs ≡ false
  no_element p [] h = refl
  no_element p (x ∷ xs) h = or_from (p x) (list_any p xs) (h x (inl refl)) (no_element p xs (λ a m. h a (inr m)))

  pub not_element : (p : A → Bool) (xs : List A) → list_any p xs ≡ false → (a : A) → Among xs a → p a ≡ false
  not_element p [] h a m = absurd m
  not_element p (x ∷ xs) h a (inl e) = ap p (sym e) ∙ (or_parts (p x) (list_any p xs) h).0
  not_element p (x ∷ xs) h a (inr m) = not_element p xs (or_parts (p x) (list_any p xs) h).1 a m

  pub each_element : (p : A → Bool) (xs : List A) → list_all p xs ≡ true → (a : A) → Among xs a → p a ≡ true
  each_element p [] h a m = absurd m
  each_element p (x ∷ xs) h a (inl e) = ap p (sym e) ∙ (and_parts (p x) (list_all p xs) h).0
  each_element p (x ∷ xs) h a (inr m) = each_element p xs (and_parts (p x) (list_all p xs) h).1 a m

  pub all_elements : (p : A → Bool) (xs : List A) → ((a : A) → Among xs a → p a ≡ true) → list_all p xs ≡ true
  all_elements p [] h = refl
  all_elements p (x ∷ xs) h = and_from (p x) (list_all p xs) (h x (inl refl)) (all_elements p xs (λ a m. h a (inr m)))

  -- If two tests agree on the elements of a list, they keep the same elements.
  pub same_filter : (p q : A → Bool) (xs : List A) → ((a : A) → Among xs a → p a ≡ q a) → filter p xs ≡ filter q xs
  same_filter p q [] h = refl
  same_filter p q (x ∷ xs) h = λ i. cond (h x (inl refl) i) (x ∷ same_filter p q xs (λ a m. h a (inr m)) i) (same_filter p q xs (λ a m. h a (inr m)) i)

  pub same_any : (p q : A → Bool) (xs : List A) → ((a : A) → Among xs a → p a ≡ q a) → list_any p xs ≡ list_any q xs
  same_any p q [] h = refl
  same_any p q (x ∷ xs) h = λ i. h x (inl refl) i || same_any p q xs (λ a m. h a (inr m)) i

  pub any_with_last : (p : A → Bool) (xs : List A) (x : A) → p x ≡ false → list_any p (xs ++ x ∷ []) ≡ list_any p xs
  any_with_last p [] x h = λ i. h i || false
  any_with_last p (y ∷ ys) x h = ap (λ b. p y || b) (any_with_last p ys x h)

  pub all_with_last : (p : A → Bool) (xs : List A) (x : A) → p x ≡ true → list_all p (xs ++ x ∷ []) ≡ list_all p xs
  all_with_last p [] x h = λ i. h i && true
  all_with_last p (y ∷ ys) x h = ap (λ b. p y && b) (all_with_last p ys x h)

  -- If an appended element differs from all others, the elements are all different exactly if they were so before.
  pub different_with_last : (same : A → A → Bool) (xs : List A) (x : A) → ((a : A) → Among xs a → same a x ≡ false)
      → are_different same (xs ++ x ∷ []) ≡ are_different same xs
  different_with_last same [] x h = refl
  different_with_last same (y ∷ ys) x h =
      λ i. not (any_with_last (same y) ys x (h y (inl refl)) i) && different_with_last same ys x (λ a m. h a (inr m)) i

  pub not_found : {B : Type 0} (f : A → B) (p : A → Bool) (xs : List A) → option_map f (find p xs) ≡ None → list_any p xs ≡ false
  not_found f p [] h = refl
  not_found f p (x ∷ xs) h = go (p x) h (not_found f p xs) where
    go : (b : Bool) → option_map f (cond b (Some x) (find p xs)) ≡ None → (option_map f (find p xs) ≡ None → list_any p xs ≡ false) → (b || list_any p xs) ≡ false
    go true e later = let wrong : ⊥ = cc in absurd wrong
    go false e later = later e

  -- Two filters, one after the other, keep the elements that pass both tests.
  pub both_pass : (p q : A → Bool) (xs : List A) → filter q (filter p xs) ≡ filter (λ x. p x && q x) xs
  both_pass p q [] = refl
  both_pass p q (x ∷ xs) = by (p x) (both_pass p q xs)
    where
      by : (b : Bool) → filter q (filter p xs) ≡ filter (λ y. p y && q y) xs → filter q (cond b (x ∷ filter p xs) (filter p xs)) ≡ cond (b && q x) (x ∷ filter (λ y. p y && q y) xs) (filter (λ y. p y && q y) xs)
      by true rest = ap (λ (ys : List A). cond (q x) (x ∷ ys) ys) rest
      by false rest = rest

  -- `position_from` finds a place exactly if some element passes.
  pub from_place : (p : A → Bool) (i : ℕ) (xs : List A) → is_some (position_from p i xs) ≡ list_any p xs
  from_place p i [] = refl
  from_place p i (x ∷ xs) = by (p x) (from_place p (i + 1) xs)
    where
      by : (b : Bool) → is_some (position_from p (i + 1) xs) ≡ list_any p xs → is_some (cond b (Some i) (position_from p (i + 1) xs)) ≡ (b || list_any p xs)
      by true rest = refl
      by false rest = rest

  pub has_place : (p : A → Bool) (xs : List A) → is_some (position p xs) ≡ list_any p xs
  has_place p xs = ap is_some (position_from-zero p xs) ∙ from_place p 0 xs

  -- If P is true of all values from the first elements and from the next element, it is true of the values from both.
  pub all_with_next : {B : Type 0} (P : B → Type 0) (f : A → List B) (xs : List A) (i : ℕ) (d : A) → i < length xs → All P (flat_map f (take i xs)) → All P (f (slice_index_or xs i d))
      → All P (flat_map f (take (i + 1) xs))
  all_with_next P f xs i d lt all one =
      let so_far = flat_map f (take i xs) in
      let next = slice_index_or xs i d in
      All-same P (flat_map f (take (i + 1) xs)) (so_far ++ f next)
      (ap (flat_map f) (take_more xs i d lt) ∙ flat_map-append f (take i xs) (next ∷ []) ∙ ap (λ ys. so_far ++ ys) (append-nil (f next)))
      (All-append P so_far (f next) all one)
