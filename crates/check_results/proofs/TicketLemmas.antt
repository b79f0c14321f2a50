-- Lemmas: rising lists in which exactly one element passes a test. A search for this element's number finds it, too.
use Rattle.std.proofs.Common.{◌≡◌, ℕ, ◌<◌, ◌||◌, Bool, true, false, not, cond, List, [], ◌∷◌, map, find, is_some, refl, sym, ap, subst, ◌∙◌, arith}
use Rattle.std.specs.Prelude.{nat_eq, Option, Some, None}
use Rattle.std.specs.List.{AllByRecursion, filter, list_any}
use Rattle.std.proofs.lemmas.Bool.Decides.{nat_tests}
use Rattle.cpe_rows.specs.After.{without_first}
use Rattle.ticket_list.specs.Rising.{IsRisingBy}
use Rattle.ticket_list.specs.TicketList.{has_ticket, with_change, without_ticket}
use Rattle.ticket_list.proofs.RisingLemmas.{all_passing}
use Rattle.check_results.specs.Results.{one_or_none}

same_number : (a b : ℕ) → a ≡ b → nat_eq a b ≡ true
same_number a b h = grind (arith, nat_tests)

lower_differs : (a b : ℕ) → a < b → nat_eq a b ≡ false
lower_differs a b h = grind (arith, nat_tests)

higher_differs : (a b c : ℕ) → a < b → a ≡ c → nat_eq b c ≡ false
higher_differs a b c h e = grind (arith, nat_tests)

-- ---- tests that agree on each element

module _ {X : Type 0} (p q : X → Bool) where
  same_find : (xs : List X) → AllByRecursion (λ x. p x ≡ q x) xs → find p xs ≡ find q xs
  same_find [] h = refl
  same_find (x ∷ xs) h = λ i. cond (h.0 i) (Some x) (same_find xs h.1 i)

  same_left : (xs : List X) → AllByRecursion (λ x. p x ≡ q x) xs → filter (λ x. not (p x)) xs ≡ filter (λ x. not (q x)) xs
  same_left [] h = refl
  same_left (x ∷ xs) h = λ i. cond (not (h.0 i)) (x ∷ same_left xs h.1 i) (same_left xs h.1 i)

  same_change : (f : X → X) (xs : List X) → AllByRecursion (λ x. p x ≡ q x) xs → map (λ x. cond (p x) (f x) x) xs ≡ map (λ x. cond (q x) (f x) x) xs
  same_change f [] h = refl
  same_change f (x ∷ xs) h = λ i. cond (h.0 i) (f x) x ∷ same_change f xs h.1 i

module _ {X : Type 0} (number : X → ℕ) (p : X → Bool) where
  abbrev numbers : List X → List ℕ
  numbers xs = map number (filter p xs)

  -- ---- no element passes

  pub none_pass : (xs : List X) → numbers xs ≡ [] → AllByRecursion (λ x. p x ≡ false) xs
  none_pass [] h = tt
  none_pass (x ∷ xs) h = go (p x) refl h (none_pass xs) where
    go : (b : Bool) → p x ≡ b → map number (cond b (x ∷ filter p xs) (filter p xs)) ≡ [] → (numbers xs ≡ [] → AllByRecursion (λ x. p x ≡ false) xs)
        → AllByRecursion (λ x. p x ≡ false) (x ∷ xs)
    go true e h more = absurd (cc)
    go false e h more = (e, more h)

  all_left : (xs : List X) → AllByRecursion (λ x. p x ≡ false) xs → filter (λ x. not (p x)) xs ≡ xs
  all_left [] h = refl
  all_left (x ∷ xs) h = ap (λ (b : Bool). cond (not b) (x ∷ filter (λ x. not (p x)) xs) (filter (λ x. not (p x)) xs)) h.0 ∙ ap (λ (u : List X). x ∷ u) (all_left xs h.1)

  pub none_changed : (f : X → X) (xs : List X) → AllByRecursion (λ x. p x ≡ false) xs → map (λ x. cond (p x) (f x) x) xs ≡ xs
  none_changed f [] h = refl
  none_changed f (x ∷ xs) h = λ i. cond (h.0 i) (f x) x ∷ none_changed f xs h.1 i

  -- ---- exactly one element passes

  later_differ : (n t : ℕ) (xs : List X) → n ≡ t → AllByRecursion (λ y. n < number y) xs → AllByRecursion (λ y. p y ≡ false) xs
      → AllByRecursion (λ y. has_ticket number t y ≡ p y) xs
  later_differ n t [] e above none = tt
  later_differ n t (y ∷ ys) e above none = (higher_differs n (number y) t above.0 e ∙ sym none.0, later_differ n t ys e above.1 none.1)

  -- the element that passes is the one that has its number
  agree : (t : ℕ) (xs : List X) → IsRisingBy number xs → numbers xs ≡ t ∷ [] → AllByRecursion (λ x. has_ticket number t x ≡ p x) xs
  agree t [] rising h = absurd (cc)
  agree t (x ∷ xs) rising h = go (p x) refl h (agree t xs rising.1) where
    go : (b : Bool) → p x ≡ b → map number (cond b (x ∷ filter p xs) (filter p xs)) ≡ t ∷ []
        → (numbers xs ≡ t ∷ [] → AllByRecursion (λ y. has_ticket number t y ≡ p y) xs)
        → AllByRecursion (λ y. has_ticket number t y ≡ p y) (x ∷ xs)
    go true e h more =
        let here : number x ≡ t = cc h in
        let none : numbers xs ≡ [] = cc h in
        (same_number (number x) t here ∙ sym e, later_differ (number x) t xs here rising.0 (none_pass xs none))
    go false e h more =
        let above = subst (AllByRecursion (λ y. number x < y)) h (all_passing number (number x) p xs rising.0) in
        (lower_differs (number x) t above.0 ∙ sym e, more h)

  module _ (t : ℕ) (xs : List X) (rising : IsRisingBy number xs) (one : numbers xs ≡ t ∷ []) where
    pub found_by : find (has_ticket number t) xs ≡ find p xs
    found_by = same_find (has_ticket number t) p xs (agree t xs rising one)

    pub left_by : without_ticket number t xs ≡ filter (λ x. not (p x)) xs
    left_by = same_left (has_ticket number t) p xs (agree t xs rising one)

    pub changed_by : (f : X → X) → with_change number t f xs ≡ map (λ x. cond (p x) (f x) x) xs
    changed_by f = same_change (has_ticket number t) p f xs (agree t xs rising one)

  -- the list without the passing element is the list without the first that passes
  pub first_left : (t : ℕ) (xs : List X) → numbers xs ≡ t ∷ [] → filter (λ x. not (p x)) xs ≡ without_first p xs
  first_left t [] h = refl
  first_left t (x ∷ xs) h = go (p x) h (first_left t xs) where
    go : (b : Bool) → map number (cond b (x ∷ filter p xs) (filter p xs)) ≡ t ∷ [] → (numbers xs ≡ t ∷ [] → filter (λ x. not (p x)) xs ≡ without_first p xs)
        → cond (not b) (x ∷ filter (λ x. not (p x)) xs) (filter (λ x. not (p x)) xs) ≡ cond b xs (x ∷ without_first p xs)
    go true h more = let none : numbers xs ≡ [] = cc h in all_left xs (none_pass xs none)
    go false h more = ap (λ (u : List X). x ∷ u) (more h)

  -- whether some element passes
  pub some_pass : (o : Option ℕ) (xs : List X) → one_or_none o ≡ numbers xs → is_some o ≡ list_any p xs
  some_pass None [] h = refl
  some_pass (Some t) [] h = absurd (cc)
  some_pass o (x ∷ xs) h = go o (p x) h (some_pass o xs) where
    go : (o : Option ℕ) (b : Bool) → one_or_none o ≡ map number (cond b (x ∷ filter p xs) (filter p xs)) → (one_or_none o ≡ numbers xs → is_some o ≡ list_any p xs)
        → is_some o ≡ (b || list_any p xs)
    go None true h more = absurd (cc)
    go (Some t) true h more = refl
    go o false h more = more h
