-- Lemmas about the first element of a list that is made from other lists.
use Rattle.std.proofs.Common.{◌≡◌, ◌||◌, List, [], ◌∷◌, ◌++◌, Bool, true, false, Option, Some, None, map, filter, find, flat_map, option_map, is_some, cond, slice_get, refl, ap, sym, ◌∙◌}
use Rattle.std.specs.List.{list_any}
use Rattle.std.specs.Option.{option_and_then}

module _ {A : Type 0} where
  pub first_append : (xs ys : List A) → slice_get (xs ++ ys) 0 ≡ cond (is_some (slice_get xs 0)) (slice_get xs 0) (slice_get ys 0)
  first_append [] ys = refl
  first_append (x ∷ xs) ys = refl

  pub first_kept : (p : A → Bool) (xs : List A) → slice_get (filter p xs) 0 ≡ find p xs
  first_kept p [] = refl
  first_kept p (x ∷ xs) = go (p x) (first_kept p xs) where
    go : (b : Bool) → slice_get (filter p xs) 0 ≡ find p xs → slice_get (cond b (x ∷ filter p xs) (filter p xs)) 0 ≡ cond b (Some x) (find p xs)
    go true later = refl
    go false later = later

  pub some_found : (p : A → Bool) (xs : List A) → is_some (find p xs) ≡ list_any p xs
  some_found p [] = refl
  some_found p (x ∷ xs) = go (p x) (some_found p xs) where
    go : (b : Bool) → is_some (find p xs) ≡ list_any p xs → is_some (cond b (Some x) (find p xs)) ≡ (b || list_any p xs)
    go true later = refl
    go false later = later

module _ {A B : Type 0} where
  pub first_map : (f : A → B) (xs : List A) → slice_get (map f xs) 0 ≡ option_map f (slice_get xs 0)
  first_map f [] = refl
  first_map f (x ∷ xs) = refl

  pub some_map : (f : A → B) (o : Option A) → is_some (option_map f o) ≡ is_some o
  some_map f None = refl
  some_map f (Some x) = refl

  module _ (f : A → List B) where
    -- the list that `f` makes of an element is not empty
    abbrev pub has_some : A → Bool
    has_some x = is_some (slice_get (f x) 0)

    abbrev pub first_of : A → Option B
    first_of x = slice_get (f x) 0

    -- lemma: the first of all elements is that of the first list that is not empty
    pub first_of_all : (xs : List A) → slice_get (flat_map f xs) 0 ≡ option_and_then first_of (find has_some xs)
    first_of_all [] = refl
    first_of_all (x ∷ xs) = first_append (f x) (flat_map f xs) ∙ go (first_of x) refl (first_of_all xs) where
      go : (o : Option B) → first_of x ≡ o → slice_get (flat_map f xs) 0 ≡ option_and_then first_of (find has_some xs)
          → cond (is_some o) o (slice_get (flat_map f xs) 0) ≡ option_and_then first_of (cond (is_some o) (Some x) (find has_some xs))
      go (Some y) e later = sym e
      go None e later = later

    pub some_of_all : (xs : List A) → is_some (slice_get (flat_map f xs) 0) ≡ list_any has_some xs
    some_of_all [] = refl
    some_of_all (x ∷ xs) = ap is_some (first_append (f x) (flat_map f xs)) ∙ go (first_of x) (some_of_all xs) where
      go : (o : Option B) → is_some (slice_get (flat_map f xs) 0) ≡ list_any has_some xs
          → is_some (cond (is_some o) o (slice_get (flat_map f xs) 0)) ≡ (is_some o || list_any has_some xs)
      go (Some y) later = refl
      go None later = later
