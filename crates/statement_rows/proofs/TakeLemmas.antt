-- A list without the element at a place.
use Rattle.std.proofs.Common.{◌≡◌, ℕ, zero, suc, ◌+◌, ◌<◌, ◌≤◌, ◌||◌, Bool, true, false, not, cond, List, [], ◌∷◌, ◌++◌, length, map, take, drop, refl, sym, ap, subst, ◌∙◌, arith}
use Rattle.check_results.specs.ticket_list.TicketList.{has_ticket, without_ticket}
use Rattle.std.specs.Prelude.{find, nat_eq, slice_get, Option, Some, None}
use Rattle.std.specs.List.{AllByRecursion, filter, list_any}
use Rattle.std.specs.Option.{option_map}
use Rattle.cpe_rows.specs.After.{without_first}
use Rattle.statement_rows.specs.declared.row.JudgedRow.{JudgedRow}
use Rattle.statement_rows.specs.Rows.{ticket_of}
use Rattle.statement_rows.specs.Tickets.{first_place, without_if}
use Rattle.ticket_list.specs.Tickets.{without}
use Rattle.check_results.specs.ticket_list.Rising.{IsRisingBy}
use Rattle.check_results.proofs.ticket_list.RisingLemmas.{all_passing}
use Rattle.statement_rows.proofs.ListLemmas.{nat_same}
use Rattle.statement_rows.proofs.RowLemmas.{all_at, higher_differs, lower_differs, no_element, without_lowest}

abbrev pub removed : {X : Type 0} → ℕ → List X → List X
removed k xs = take k xs ++ drop (k + 1) xs

pub next_place : {X : Type 0} (x : X) (k : ℕ) (xs : List X) → removed (suc k) (x ∷ xs) ≡ x ∷ removed k xs
next_place x k xs = let same : suc k + 1 ≡ suc (k + 1) = omega arith in ap (λ (n : ℕ). x ∷ (take k xs ++ drop n (x ∷ xs))) same

pub first_place_gone : {X : Type 0} (x : X) (xs : List X) → removed zero (x ∷ xs) ≡ xs
first_place_gone x xs = let same : 0 + 1 ≡ suc 0 = omega arith in ap (λ (n : ℕ). drop n (x ∷ xs)) same

drop_none : {X : Type 0} (n : ℕ) → drop {A = X} n [] ≡ []
drop_none zero = refl
drop_none (suc n) = refl

take_none : {X : Type 0} (n : ℕ) → take {A = X} n [] ≡ []
take_none zero = refl
take_none (suc n) = refl

removed_none : {X : Type 0} (n : ℕ) → removed {X = X} n [] ≡ []
removed_none n = λ i. take_none n i ++ drop_none (n + 1) i

pub all_removed : {X : Type 0} (P : X → Type 0) (k : ℕ) (xs : List X) → AllByRecursion P xs → AllByRecursion P (removed k xs)
all_removed P k [] h = subst (AllByRecursion P) (sym (removed_none k)) tt
all_removed P zero (x ∷ xs) h = subst (AllByRecursion P) (sym (first_place_gone x xs)) h.1
all_removed P (suc k) (x ∷ xs) h = subst (AllByRecursion P) (sym (next_place x k xs)) (h.0, all_removed P k xs h.1)

pub rising-removed : {X : Type 0} (key : X → ℕ) (k : ℕ) (xs : List X) → IsRisingBy key xs → IsRisingBy key (removed k xs)
rising-removed key k [] h = subst (IsRisingBy key) (sym (removed_none k)) tt
rising-removed key zero (x ∷ xs) h = subst (IsRisingBy key) (sym (first_place_gone x xs)) h.1
rising-removed key (suc k) (x ∷ xs) h = subst (IsRisingBy key) (sym (next_place x k xs)) (all_removed (λ y. key x < key y) k xs h.0, rising-removed key k xs h.1)

pub length-removed : {X : Type 0} (k : ℕ) (xs : List X) → length (removed k xs) ≤ length xs
length-removed {X} k [] = let same = ap length (removed_none {X = X} k) in omega (arith, same)
length-removed zero (x ∷ xs) = let same = ap length (first_place_gone x xs) in omega (arith, same)
length-removed (suc k) (x ∷ xs) = let same = ap length (next_place x k xs) in omega (arith, same, length-removed k xs)

pub map-removed : {X Y : Type 0} (f : X → Y) (k : ℕ) (xs : List X) → map f (removed k xs) ≡ removed k (map f xs)
map-removed {X} {Y} f k [] = ap (map f) (removed_none {X = X} k) ∙ sym (removed_none {X = Y} k)
map-removed f zero (x ∷ xs) = ap (map f) (first_place_gone x xs) ∙ sym (first_place_gone (f x) (map f xs))
map-removed f (suc k) (x ∷ xs) = ap (map f) (next_place x k xs) ∙ (ap (λ u. f x ∷ u) (map-removed f k xs) ∙ sym (next_place (f x) k (map f xs)))

left-cons : (b : Bool) (n t : ℕ) (ts : List ℕ) → n < t → without_if b t (n ∷ ts) ≡ n ∷ without_if b t ts
left-cons true n t ts h = ap (λ (b : Bool). cond (not b) (n ∷ without t ts) (without t ts)) (lower_differs n t h)
left-cons false n t ts h = refl

module _ {X : Type 0} (key : X → ℕ) (p : X → Bool) where
  -- the keys of those that pass, without those of one element
  pub tickets-removed : (k : ℕ) (r : X) (xs : List X) → IsRisingBy key xs → slice_get xs k ≡ Some r
      → map key (filter p (removed k xs)) ≡ without_if (p r) (key r) (map key (filter p xs))
  tickets-removed k r [] h e = absurd (no_element e)
  tickets-removed zero r (x ∷ xs) h e =
      let same : x ≡ r = cc e in
      ap (λ (ys : List X). map key (filter p ys)) (first_place_gone x xs)
      ∙ subst (λ (r : X). map key (filter p xs) ≡ without_if (p r) (key r) (map key (filter p (x ∷ xs)))) same (go (p x))
    where
      go : (b : Bool) → map key (filter p xs) ≡ without_if b (key x) (map key (cond b (x ∷ filter p xs) (filter p xs)))
      go true = sym (without_lowest (key x) (map key (filter p xs)) (all_passing key (key x) p xs h.0))
      go false = refl
  tickets-removed (suc k) r (x ∷ xs) h e =
      ap (λ (ys : List X). map key (filter p ys)) (next_place x k xs) ∙ go (p x) (tickets-removed k r xs h.1 e)
    where
      go : (b : Bool) → map key (filter p (removed k xs)) ≡ without_if (p r) (key r) (map key (filter p xs))
          → map key (cond b (x ∷ filter p (removed k xs)) (filter p (removed k xs))) ≡ without_if (p r) (key r) (map key (cond b (x ∷ filter p xs) (filter p xs)))
      go true more = ap (λ (u : List ℕ). key x ∷ u) more ∙ sym (left-cons (p r) (key x) (key r) (map key (filter p xs)) (all_at (λ y. key x < key y) xs k r h.0 e))
      go false more = more

-- ---- the list without the first that passes

no_zero : (n : ℕ) (o : Option ℕ) → option_map suc o ≡ Some n → (m : ℕ) × (o ≡ Some m) × (suc m ≡ n)
no_zero n None h = absurd (let wrong : None ≡ Some n = h in cc)
no_zero n (Some m) h = (m, refl, let one : Some (suc m) ≡ Some n = h in cc)

pub removed_first : {X : Type 0} (p : X → Bool) (xs : List X) (k : ℕ) → first_place p xs ≡ Some k → removed k xs ≡ without_first p xs
removed_first p [] k h = absurd (cc)
removed_first p (x ∷ xs) k h = go (p x) h (removed_first p xs) where
  go : (b : Bool) → cond b (Some 0) (option_map suc (first_place p xs)) ≡ Some k → ((k : ℕ) → first_place p xs ≡ Some k → removed k xs ≡ without_first p xs)
      → removed k (x ∷ xs) ≡ cond b xs (x ∷ without_first p xs)
  go true h more = let same : 0 ≡ k = cc h in subst (λ (k : ℕ). removed k (x ∷ xs) ≡ xs) same (first_place_gone x xs)
  go false h more =
      let m = no_zero k (first_place p xs) h in
      subst (λ (k : ℕ). removed k (x ∷ xs) ≡ x ∷ without_first p xs) m.2 (next_place x m.0 xs ∙ ap (λ u. x ∷ u) (more m.0 m.1))

module _ {X : Type 0} (p : X → Bool) where
  pub first_within : (xs : List X) (k : ℕ) → first_place p xs ≡ Some k → k < length xs
  first_within [] k h = absurd (cc)
  first_within (x ∷ xs) k h = go (p x) h (first_within xs) where
    go : (b : Bool) → cond b (Some 0) (option_map suc (first_place p xs)) ≡ Some k → ((k : ℕ) → first_place p xs ≡ Some k → k < length xs) → k < suc (length xs)
    go true h more = let same : 0 ≡ k = cc h in omega (arith, same)
    go false h more = let m = no_zero k (first_place p xs) h in omega (arith, more m.0 m.1, m.2)

  pub first_any : (xs : List X) (k : ℕ) → first_place p xs ≡ Some k → list_any p xs ≡ true
  first_any [] k h = absurd (cc)
  first_any (x ∷ xs) k h = go (p x) h (first_any xs) where
    go : (b : Bool) → cond b (Some 0) (option_map suc (first_place p xs)) ≡ Some k → ((k : ℕ) → first_place p xs ≡ Some k → list_any p xs ≡ true) → (b || list_any p xs) ≡ true
    go true h more = refl
    go false h more = let m = no_zero k (first_place p xs) h in more m.0 m.1

  none_suc : (o : Option ℕ) → option_map suc o ≡ None → o ≡ None
  none_suc None h = refl
  none_suc (Some n) h = absurd (cc)

  pub first_missing : (xs : List X) → first_place p xs ≡ None → (list_any p xs ≡ false) × (without_first p xs ≡ xs)
  first_missing [] h = (refl, refl)
  first_missing (x ∷ xs) h = go (p x) h (first_missing xs) where
    go : (b : Bool) → cond b (Some 0) (option_map suc (first_place p xs)) ≡ None → (first_place p xs ≡ None → (list_any p xs ≡ false) × (without_first p xs ≡ xs))
        → ((b || list_any p xs) ≡ false) × (cond b xs (x ∷ without_first p xs) ≡ x ∷ xs)
    go true h more = absurd (cc)
    go false h more = let rest = more (none_suc (first_place p xs) h) in (rest.0, ap (λ u. x ∷ u) rest.1)

-- ---- the row at a place, by its ticket

ticket_above : (n k t : ℕ) (rows : List JudgedRow) → AllByRecursion (λ r. n < ticket_of r) rows → option_map ticket_of (slice_get rows k) ≡ Some t → n < t
ticket_above n k t [] h e = absurd (no_element e)
ticket_above n zero t (r ∷ rows) h e = let same : ticket_of r ≡ t = cc e in subst (λ (m : ℕ). n < m) same h.0
ticket_above n (suc k) t (r ∷ rows) h e = ticket_above n k t rows h.1 e

others_stay : (n t : ℕ) (rows : List JudgedRow) → AllByRecursion (λ r. n < ticket_of r) rows → n ≡ t → rows ≡ without_ticket ticket_of t rows
others_stay n t [] h e = refl
others_stay n t (r ∷ rows) h e =
    let lt : n < ticket_of r = h.0 in
    ap (λ (u : List JudgedRow). r ∷ u) (others_stay n t rows h.1 e)
    ∙ ap (λ (b : Bool). cond (not b) (r ∷ without_ticket ticket_of t rows) (without_ticket ticket_of t rows)) (sym (higher_differs t (ticket_of r) (omega (arith, lt, e))))

pub row_taken : (k t : ℕ) (rows : List JudgedRow) → IsRisingBy ticket_of rows → option_map ticket_of (slice_get rows k) ≡ Some t
    → (find (has_ticket ticket_of t) rows ≡ slice_get rows k) × (without_ticket ticket_of t rows ≡ removed k rows)
row_taken k t [] rising h = absurd (no_element h)
row_taken zero t (x ∷ xs) rising h =
    let same : ticket_of x ≡ t = cc h in
    let here = ap (λ (n : ℕ). nat_eq (ticket_of x) n) (sym same) ∙ nat_same (ticket_of x) in (
      ap (λ (b : Bool). cond b (Some x) (find (has_ticket ticket_of t) xs)) here,
      ap (λ (b : Bool). cond (not b) (x ∷ without_ticket ticket_of t xs) (without_ticket ticket_of t xs)) here
          ∙ (sym (others_stay (ticket_of x) t xs rising.0 same) ∙ sym (first_place_gone x xs)),
    )
row_taken (suc k) t (x ∷ xs) rising h =
    let more = row_taken k t xs rising.1 h in
    let differs = lower_differs (ticket_of x) t (ticket_above (ticket_of x) k t xs rising.0 h) in (
      ap (λ (b : Bool). cond b (Some x) (find (has_ticket ticket_of t) xs)) differs ∙ more.0,
      ap (λ (b : Bool). cond (not b) (x ∷ without_ticket ticket_of t xs) (without_ticket ticket_of t xs)) differs
          ∙ (ap (λ (u : List JudgedRow). x ∷ u) more.1 ∙ sym (next_place x k xs)),
    )

pub row_there : (k : ℕ) (rows : List JudgedRow) → k < length rows → None ≡ option_map ticket_of (slice_get rows k) → ⊥
row_there k [] lt h = omega (arith, lt)
row_there zero (x ∷ xs) lt h = no_element h
row_there (suc k) (x ∷ xs) lt h = row_there k xs (omega (arith, lt)) h
