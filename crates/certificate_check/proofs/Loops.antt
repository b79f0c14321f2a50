-- Lemmas: loops over rows by their places, up to the limit of the number of rows.
use Rattle.std.proofs.Common.{◌≡◌, ℕ, zero, suc, ◌+◌, ◌-◌, ◌≤◌, ◌<◌, List, [], ◌∷◌, ◌++◌, Bool, true, false, cond, ◌||◌, Some, None, find, map, take, drop, length, get_or, option_map, slice_get, refl, ap, sym, ◌∙◌, add-one, arith}
use Rattle.std.specs.Borrow.{Bor}
use Rattle.std.specs.List.{list_any, last_or}
use Rattle.std.proofs.lemmas.Bool.Decides.{nat_tests}
use Rattle.std.proofs.lemmas.Option.{slice_get_within, slice_get_read, slice_get_past, slice_get-map}
use Rattle.cpe_rows.specs.cpe_name.Eleven.{Values}
use Rattle.cpe_rows.specs.Rows.{Rows}
use Rattle.cpe_rows.specs.Lawful.{IsLawful}
use Rattle.cpe_rows.specs.declared.entry.Entry.{Entry}
use Rattle.cpe_rows.specs.declared.fault.Which.TheVariants as limit
use Rattle.cpe_rows.proofs.Limited.{each_within}
use Rattle.certificate_check.proofs.Elements.{same_some, map_last}

module _ {A : Type 0} where
  pub drop_at : (xs : List A) (k : ℕ) (x : A) → slice_get xs k ≡ Some x → drop k xs ≡ x ∷ drop (k + 1) xs
  drop_at xs k x e = rw add-one (go xs k e) where
    go : (xs : List A) (k : ℕ) → slice_get xs k ≡ Some x → drop k xs ≡ x ∷ drop (suc k) xs
    go [] k e = absurd (let w : ⊥ = cc in w)
    go (y ∷ xs) zero e = ap (λ z. z ∷ xs) (same_some y x e)
    go (y ∷ xs) (suc k) e = go xs k e

  pub drop_past : (xs : List A) (k : ℕ) → slice_get xs k ≡ None → drop k xs ≡ []
  drop_past [] zero e = refl
  drop_past [] (suc k) e = refl
  drop_past (y ∷ xs) zero e = absurd (let w : ⊥ = cc in w)
  drop_past (y ∷ xs) (suc k) e = drop_past xs k e

  pub take_at : (xs : List A) (k : ℕ) (x : A) → slice_get xs k ≡ Some x → take (k + 1) xs ≡ take k xs ++ x ∷ []
  take_at xs k x e = rw add-one (go xs k e) where
    go : (xs : List A) (k : ℕ) → slice_get xs k ≡ Some x → take (suc k) xs ≡ take k xs ++ x ∷ []
    go [] k e = absurd (let w : ⊥ = cc in w)
    go (y ∷ xs) zero e = ap (λ z. z ∷ []) (same_some y x e)
    go (y ∷ xs) (suc k) e = ap (λ zs. y ∷ zs) (go xs k e)

  pub take_past : (xs : List A) (k : ℕ) → slice_get xs k ≡ None → take k xs ≡ xs
  take_past [] zero e = refl
  take_past [] (suc k) e = refl
  take_past (y ∷ xs) zero e = absurd (let w : ⊥ = cc in w)
  take_past (y ∷ xs) (suc k) e = ap (λ zs. y ∷ zs) (take_past xs k e)

  -- the element at the last place is the last element
  pub last_is : (xs : List A) → slice_get xs (length xs - 1) ≡ last_or None xs
  last_is [] = refl
  last_is (x ∷ []) = refl
  last_is (x ∷ y ∷ xs) =
      let one : length (x ∷ y ∷ xs) - 1 ≡ suc (length xs) = omega arith in
      let less : length (y ∷ xs) - 1 ≡ length xs = omega arith in
      ap (slice_get (x ∷ y ∷ xs)) one ∙ (ap (slice_get (y ∷ xs)) (sym less) ∙ last_is (y ∷ xs))

  module _ (p : A → Bool) (xs : List A) (k : ℕ) where
    -- a search of the elements from place `k` has the result of a search of all elements
    abbrev pub IsLeft : Type 0
    IsLeft = find p (drop k xs) ≡ find p xs

    pub left_here : (x : A) → IsLeft → slice_get xs k ≡ Some x → p x ≡ true → find p xs ≡ Some x
    left_here x left e h = sym left ∙ (ap (find p) (drop_at xs k x e) ∙ ap (λ b. cond b (Some x) (find p (drop (k + 1) xs))) h)

    pub left_none : IsLeft → slice_get xs k ≡ None → find p xs ≡ None
    left_none left e = sym left ∙ ap (find p) (drop_past xs k e)

    pub left_next : (x : A) → IsLeft → slice_get xs k ≡ Some x → p x ≡ false → find p (drop (k + 1) xs) ≡ find p xs
    left_next x left e h = sym (ap (find p) (drop_at xs k x e) ∙ ap (λ b. cond b (Some x) (find p (drop (k + 1) xs))) h) ∙ left

    -- some element from place `k` passes exactly if some element of the whole list passes
    abbrev pub AnyLeft : Type 0
    AnyLeft = list_any p (drop k xs) ≡ list_any p xs

    pub any_here : (x : A) → AnyLeft → slice_get xs k ≡ Some x → p x ≡ true → list_any p xs ≡ true
    any_here x left e h = sym left ∙ (ap (list_any p) (drop_at xs k x e) ∙ ap (λ b. b || list_any p (drop (k + 1) xs)) h)

    pub any_none : AnyLeft → slice_get xs k ≡ None → list_any p xs ≡ false
    any_none left e = sym left ∙ ap (list_any p) (drop_past xs k e)

    pub any_next : (x : A) → AnyLeft → slice_get xs k ≡ Some x → p x ≡ false → list_any p (drop (k + 1) xs) ≡ list_any p xs
    any_next x left e h = sym (ap (list_any p) (drop_at xs k x e) ∙ ap (λ b. b || list_any p (drop (k + 1) xs)) h) ∙ left

-- the value of a borrowed name
abbrev pub now : Bor Values → Values
now name = name.now

-- the element at a place, as a function shows it
module _ {A B : Type 0} (shown : A → B) (xs : List A) (k : ℕ) where
  pub shown_at : (x : A) → k < length xs → x ≡ get_or xs k x → slice_get (map shown xs) k ≡ Some (shown x)
  shown_at x within is = slice_get-map shown xs k ∙ ap (option_map shown) (slice_get_read xs (length xs) k x refl within is)

  pub shown_past : length xs ≤ k → slice_get (map shown xs) k ≡ None
  shown_past past = slice_get-map shown xs k ∙ ap (option_map shown) (slice_get_past xs k past)

-- the list has the elements before this place, as references
module _ {A B : Type 0} (f : A → B) (xs : List B) where
  abbrev pub AreListed : List A → ℕ → Type 0
  AreListed listed k = map f listed ≡ take k xs

  pub one_listed : (listed more : List A) (k : ℕ) (a : A) → AreListed listed k → slice_get xs k ≡ Some (f a) → more ≡ listed ++ a ∷ []
      → AreListed more (k + 1)
  one_listed listed more k a so_far at e =
      ap (map f) e ∙ (map_last f listed a ∙ (ap (λ ys. ys ++ f a ∷ []) so_far ∙ sym (take_at xs k (f a) at)))

  pub all_listed : (listed : List A) (k : ℕ) → AreListed listed k → slice_get xs k ≡ None → xs ≡ map f listed
  all_listed listed k so_far past = sym (so_far ∙ take_past xs k past)

pub nearer : {A : Type 0} (xs : List A) (k : ℕ) (x : A) → slice_get xs k ≡ Some x → length xs - (k + 1) < length xs - k
nearer xs k x at = omega (arith, slice_get_within xs k x at)

module _ (rows : Rows) (lawful : IsLawful rows) where
  pub few_entries : length rows.entries ≤ 2000000
  few_entries = grind (arith, nat_tests, each_within rows lawful.within limit.Entries)

  pub few_items : length rows.items ≤ 1000000
  few_items = grind (arith, nat_tests, each_within rows lawful.within limit.Items)

  pub few_statements : length rows.statements ≤ 100000
  few_statements = grind (arith, nat_tests, each_within rows lawful.within limit.Statements)

  pub few_checks : length rows.checks ≤ 100000
  few_checks = grind (arith, nat_tests, each_within rows lawful.within limit.Checks)

  pub few_before : (k : ℕ) (e : Entry) → slice_get rows.entries k ≡ Some e → k < 2000000
  few_before k e at = omega (arith, few_entries, slice_get_within rows.entries k e at)
