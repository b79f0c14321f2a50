-- Places of rows, found by their tickets.
use Rattle.std.proofs.Common.{◌≡◌, ℕ, zero, suc, ◌<◌, Bool, true, false, cond, List, [], ◌∷◌, length, map, refl, sym, ap, subst, ◌∙◌, arith}
use Rattle.std.specs.Prelude.{slice_get, Some, None}
use Rattle.std.specs.Option.{option_map}
use Rattle.std.specs.List.{AllByRecursion, filter}
use Rattle.statement_rows.specs.declared.row.JudgedRow.{JudgedRow}
use Rattle.check_results.specs.ticket_list.Rising.{IsRisingBy}
use Rattle.check_results.proofs.ticket_list.RisingLemmas.{all_passing}
use Rattle.statement_rows.specs.Rows.{ticket_place_in, ticket_of, statement_tickets}
use Rattle.statement_rows.specs.State.{places_where}
use Rattle.statement_rows.specs.Tickets.{first_place}
use Rattle.statement_rows.proofs.ListLemmas.{nat_same}
use Rattle.statement_rows.proofs.RowLemmas.{all_at, lower_differs}

pub get-map : {X Y : Type 0} (f : X → Y) (xs : List X) (k : ℕ) → slice_get (map f xs) k ≡ option_map f (slice_get xs k)
get-map f [] k = refl
get-map f (x ∷ xs) zero = refl
get-map f (x ∷ xs) (suc k) = get-map f xs k

-- ---- the place of a ticket

place-here : (t : ℕ) (x : JudgedRow) (xs : List JudgedRow) → ticket_of x ≡ t → ticket_place_in t (x ∷ xs) ≡ Some 0
place-here t x xs e =
    subst (λ (t : ℕ). ticket_place_in t (x ∷ xs) ≡ Some 0) e (ap (λ (b : Bool). cond b (Some 0) (option_map suc (ticket_place_in (ticket_of x) xs))) (nat_same (ticket_of x)))

place-later : (t : ℕ) (x : JudgedRow) (xs : List JudgedRow) → ticket_of x < t → ticket_place_in t (x ∷ xs) ≡ option_map suc (ticket_place_in t xs)
place-later t x xs lt = ap (λ (b : Bool). cond b (Some 0) (option_map suc (ticket_place_in t xs))) (lower_differs (ticket_of x) t lt)

module _ (p : JudgedRow → Bool) where
  pub first_none : (rows : List JudgedRow) → statement_tickets p rows ≡ [] → first_place p rows ≡ None
  first_none [] h = refl
  first_none (x ∷ xs) h = go (p x) h (first_none xs) where
    go : (b : Bool) → map ticket_of (cond b (x ∷ filter p xs) (filter p xs)) ≡ [] → (statement_tickets p xs ≡ [] → first_place p xs ≡ None)
        → cond b (Some 0) (option_map suc (first_place p xs)) ≡ None
    go true h more = absurd (cc)
    go false h more = ap (option_map suc) (more h)

  pub first_is : (t : ℕ) (rows : List JudgedRow) → IsRisingBy ticket_of rows → statement_tickets p rows ≡ t ∷ [] → ticket_place_in t rows ≡ first_place p rows
  first_is t [] r h = absurd (cc)
  first_is t (x ∷ xs) r h = go (p x) h (first_is t xs r.1) where
    go : (b : Bool) → map ticket_of (cond b (x ∷ filter p xs) (filter p xs)) ≡ t ∷ [] → (statement_tickets p xs ≡ t ∷ [] → ticket_place_in t xs ≡ first_place p xs)
        → ticket_place_in t (x ∷ xs) ≡ cond b (Some 0) (option_map suc (first_place p xs))
    go true h more = let here : ticket_of x ≡ t = cc h in place-here t x xs here
    go false h more =
        let above = subst (AllByRecursion (λ y. ticket_of x < y)) h (all_passing ticket_of (ticket_of x) p xs r.0) in
        place-later t x xs above.0 ∙ ap (option_map suc) (more h)

  -- ---- the places of those that pass

  pub places-length : (n : ℕ) (rows : List JudgedRow) → length (statement_tickets p rows) ≡ length (places_where p n rows)
  places-length n [] = refl
  places-length n (x ∷ xs) = go (p x) (places-length (suc n) xs) where
    go : (b : Bool) → length (statement_tickets p xs) ≡ length (places_where p (suc n) xs)
        → length (map ticket_of (cond b (x ∷ filter p xs) (filter p xs))) ≡ length (cond b (n ∷ places_where p (suc n) xs) (places_where p (suc n) xs))
    go true h = ap suc h
    go false h = h

  places-suc : (n : ℕ) (rows : List JudgedRow) → places_where p (suc n) rows ≡ map suc (places_where p n rows)
  places-suc n [] = refl
  places-suc n (x ∷ xs) = go (p x) (places-suc (suc n) xs) where
    go : (b : Bool) → places_where p (suc (suc n)) xs ≡ map suc (places_where p (suc n) xs)
        → cond b (suc n ∷ places_where p (suc (suc n)) xs) (places_where p (suc (suc n)) xs) ≡ map suc (cond b (n ∷ places_where p (suc n) xs) (places_where p (suc n) xs))
    go true h = ap (λ (u : List ℕ). suc n ∷ u) h
    go false h = h

  get_none : (ts us : List ℕ) (j : ℕ) → length ts ≡ length us → slice_get ts j ≡ None → slice_get us j ≡ None
  get_none [] [] j e h = refl
  get_none [] (u ∷ us) j e h = absurd (let wrong : 0 ≡ suc (length us) = e in omega (arith, wrong))
  get_none (t ∷ ts) [] j e h = refl
  get_none (t ∷ ts) (u ∷ us) zero e h = absurd (let wrong : Some t ≡ None = h in cc)
  get_none (t ∷ ts) (u ∷ us) (suc j) e h = get_none ts us j (omega (arith, e)) h

  pub place_none : (rows : List JudgedRow) (j : ℕ) → slice_get (statement_tickets p rows) j ≡ None → slice_get (places_where p 0 rows) j ≡ None
  place_none rows j h = get_none (statement_tickets p rows) (places_where p 0 rows) j (places-length 0 rows) h

  pub place_nth : (t : ℕ) (rows : List JudgedRow) (j : ℕ) → IsRisingBy ticket_of rows → slice_get (statement_tickets p rows) j ≡ Some t → ticket_place_in t rows ≡ slice_get (places_where p 0 rows) j
  place_nth t [] j r h = absurd (let wrong : None ≡ Some t = h in cc)
  place_nth t (x ∷ xs) j r h = go (p x) j h (λ j. place_nth t xs j r.1) where
    behind : (j : ℕ) → slice_get (statement_tickets p xs) j ≡ Some t → (slice_get (statement_tickets p xs) j ≡ Some t → ticket_place_in t xs ≡ slice_get (places_where p 0 xs) j)
        → ticket_place_in t (x ∷ xs) ≡ slice_get (places_where p 1 xs) j
    behind j h more =
        place-later t x xs (all_at (λ y. ticket_of x < y) (statement_tickets p xs) j t (all_passing ticket_of (ticket_of x) p xs r.0) h)
        ∙ (ap (option_map suc) (more h) ∙ (sym (get-map suc (places_where p 0 xs) j) ∙ ap (λ (ns : List ℕ). slice_get ns j) (sym (places-suc 0 xs))))

    go : (b : Bool) (j : ℕ) → slice_get (map ticket_of (cond b (x ∷ filter p xs) (filter p xs))) j ≡ Some t
        → ((j : ℕ) → slice_get (statement_tickets p xs) j ≡ Some t → ticket_place_in t xs ≡ slice_get (places_where p 0 xs) j)
        → ticket_place_in t (x ∷ xs) ≡ slice_get (cond b (0 ∷ places_where p 1 xs) (places_where p 1 xs)) j
    go true zero h more = let here : ticket_of x ≡ t = cc h in place-here t x xs here
    go true (suc j) h more = behind j h (more j)
    go false j h more = behind j h (more j)

-- ---- as contracts see it

pub places-map : {X Y : Type 0} (f : X → Y) (q : Y → Bool) (n : ℕ) (xs : List X) → places_where q n (map f xs) ≡ places_where (λ x. q (f x)) n xs
places-map f q n [] = refl
places-map f q n (x ∷ xs) = ap (λ (ns : List ℕ). cond (q (f x)) (n ∷ ns) ns) (places-map f q (suc n) xs)
