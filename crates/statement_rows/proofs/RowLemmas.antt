-- Lists whose keys rise, and of which one element changes.
use Rattle.std.specs.Bool.{Decides}
use Rattle.std.proofs.Common.{rules, ◌≡◌, ℕ, zero, suc, ◌+◌, ◌<◌, ◌≤◌, ◌||◌, Bool, true, false, not, cond, List, [], ◌∷◌, ◌++◌, length, map, take, get_or, refl, sym, ap, subst, ◌∙◌, arith}
use Rattle.std.specs.Prelude.{find, nat_eq, nat_lt, slice_get, Option, Some, None}
use Rattle.check_results.specs.ticket_list.TicketList.{has_ticket, with_change}
use Rattle.std.specs.Option.{option_map}
use Rattle.std.specs.List.{AllByRecursion, filter}
use Rattle.std.proofs.lemmas.Bool.Decides.{nat_tests}
use Rattle.std.proofs.lemmas.List.Folds.{list_any-append}
use Rattle.std.proofs.lemmas.List.{take_more}
use Rattle.cpe_rows.specs.Truth.{same_truth}
use Rattle.cpe_rows.specs.declared.truth.Truth.{Truth}
use Rattle.statement_rows.specs.declared.row.JudgedRow.{JudgedRow}
use Rattle.statement_rows.specs.Rows.{after_move, at_place, at_rows, at_ticket, forget_change, is_changed, ticket_place_in, ticket_of, statement_tickets}
use Rattle.statement_rows.specs.Tickets.{among}
use Rattle.ticket_list.specs.Tickets.{without}
use Rattle.check_results.specs.ticket_list.Rising.{IsRisingBy, put_in}
use Rattle.check_results.proofs.ticket_list.RisingLemmas.{all_passing}
use Rattle.ticket_list.proofs.TicketLemmas.{without_none}
use Rattle.statement_rows.proofs.ListLemmas.{nat_decides, nat_same}

pub lower_differs : (a b : ℕ) → a < b → nat_eq a b ≡ false
lower_differs a b h = grind (arith, nat_tests)

pub higher_differs : (a b : ℕ) → a < b → nat_eq b a ≡ false
higher_differs a b h = grind (arith, nat_tests)

below_is : (a b : ℕ) → a < b → nat_lt a b ≡ true
below_is a b h = grind (arith, nat_tests)

above_is : (a b : ℕ) → a < b → nat_lt b a ≡ false
above_is a b h = grind (arith, nat_tests)

pub no_element : {X : Type 0} {r : X} → None ≡ Some r → ⊥
no_element h = cc

pub all_at : {X : Type 0} (P : X → Type 0) (xs : List X) (k : ℕ) (r : X) → AllByRecursion P xs → slice_get xs k ≡ Some r → P r
all_at P [] k r h e = absurd (no_element e)
all_at P (x ∷ xs) zero r h e = let same : x ≡ r = cc e in subst P same h.0
all_at P (x ∷ xs) (suc k) r h e = all_at P xs k r h.1 e

-- ---- tickets in order

put_lowest : (t : ℕ) (ts : List ℕ) → AllByRecursion (λ y. t < y) ts → put_in t ts ≡ t ∷ ts
put_lowest t [] h = refl
put_lowest t (y ∷ ts) h = ap (λ (b : Bool). cond b (y ∷ put_in t ts) (t ∷ (y ∷ ts))) (above_is t y h.0)

all_differ : (t : ℕ) (ts : List ℕ) → AllByRecursion (λ y. t < y) ts → AllByRecursion (λ y. nat_eq y t ≡ false) ts
all_differ t [] h = tt
all_differ t (y ∷ ts) h = (higher_differs t y h.0, all_differ t ts h.1)

pub without_lowest : (t : ℕ) (ts : List ℕ) → AllByRecursion (λ y. t < y) ts → without t (t ∷ ts) ≡ ts
without_lowest t ts h = ap (λ (b : Bool). cond (not b) (t ∷ without t ts) (without t ts)) (nat_same t) ∙ without_none t ts (all_differ t ts h)

after_move-cons : (a b : Bool) (x t : ℕ) (ts : List ℕ) → x < t → after_move a b t (x ∷ ts) ≡ x ∷ after_move a b t ts
after_move-cons true true x t ts h = refl
after_move-cons false false x t ts h = refl
after_move-cons false true x t ts h = ap (λ (b : Bool). cond b (x ∷ put_in t ts) (t ∷ (x ∷ ts))) (below_is x t h)
after_move-cons true false x t ts h = ap (λ (b : Bool). cond (not b) (x ∷ without t ts) (without t ts)) (lower_differs x t h)

apart_numbers : (a b : ℕ) → nat_eq a b ≡ false → a ≡ b → ⊥
apart_numbers a b h = grind (arith, nat_tests)

module _ {X : Type 0} (key : X → ℕ) where
  module _ (f : X → X) (t : ℕ) where
    abbrev one : X → X
    one x = cond (nat_eq t (key x)) (f x) x

    pub untouched : (xs : List X) → AllByRecursion (λ y. nat_eq t (key y) ≡ false) xs → map one xs ≡ xs
    untouched [] h = refl
    untouched (x ∷ xs) h = λ i. cond (h.0 i) (f x) x ∷ untouched xs h.1 i

  apart : (n : ℕ) (xs : List X) → AllByRecursion (λ y. n < key y) xs → AllByRecursion (λ y. nat_eq n (key y) ≡ false) xs
  apart n [] h = tt
  apart n (x ∷ xs) h = (lower_differs n (key x) h.0, apart n xs h.1)

  -- the element at a place is the one that has its key
  pub placed : (f : X → X) (k : ℕ) (r : X) (xs : List X) → IsRisingBy key xs → slice_get xs k ≡ Some r
      → at_place k f xs ≡ map (λ x. cond (nat_eq (key r) (key x)) (f x) x) xs
  placed f k r [] h e = absurd (no_element e)
  placed f zero r (x ∷ xs) h e =
      let same : x ≡ r = cc e in
      subst (λ (r : X). f x ∷ xs ≡ map (λ y. cond (nat_eq (key r) (key y)) (f y) y) (x ∷ xs)) same
      (λ i. cond (sym (nat_same (key x)) i) (f x) x ∷ sym (untouched f (key x) xs (apart (key x) xs h.0)) i)
  placed f (suc k) r (x ∷ xs) h e =
      λ i. cond (sym (higher_differs (key x) (key r) (all_at (λ y. key x < key y) xs k r h.0 e)) i) (f x) x ∷ placed f k r xs h.1 e i

  -- ---- the keys of those that pass, if one element changes

  module _ (f : X → X) (keeps : (x : X) → key (f x) ≡ key x) (p : X → Bool) where
    pub moved_is : (k : ℕ) (r : X) (xs : List X) → IsRisingBy key xs → slice_get xs k ≡ Some r
        → after_move (p r) (p (f r)) (key r) (map key (filter p xs)) ≡ map key (filter p (at_place k f xs))
    moved_is k r [] h e = absurd (no_element e)
    moved_is zero r (x ∷ xs) h e =
        let same : x ≡ r = cc e in
        subst (λ (r : X). after_move (p r) (p (f r)) (key r) (map key (filter p (x ∷ xs))) ≡ map key (filter p (f x ∷ xs))) same (go (p x) (p (f x)))
      where
        go : (a b : Bool) → after_move a b (key x) (map key (cond a (x ∷ filter p xs) (filter p xs))) ≡ map key (cond b (f x ∷ filter p xs) (filter p xs))
        go true true = ap (λ (n : ℕ). n ∷ map key (filter p xs)) (sym (keeps x))
        go true false = without_lowest (key x) (map key (filter p xs)) (all_passing key (key x) p xs h.0)
        go false true = put_lowest (key x) (map key (filter p xs)) (all_passing key (key x) p xs h.0) ∙ ap (λ (n : ℕ). n ∷ map key (filter p xs)) (sym (keeps x))
        go false false = refl
    moved_is (suc k) r (x ∷ xs) h e = go (p x) (moved_is k r xs h.1 e) where
      lt : key x < key r
      lt = all_at (λ y. key x < key y) xs k r h.0 e

      go : (a : Bool) → after_move (p r) (p (f r)) (key r) (map key (filter p xs)) ≡ map key (filter p (at_place k f xs))
          → after_move (p r) (p (f r)) (key r) (map key (cond a (x ∷ filter p xs) (filter p xs))) ≡ map key (cond a (x ∷ filter p (at_place k f xs)) (filter p (at_place k f xs)))
      go true more = after_move-cons (p r) (p (f r)) (key x) (key r) (map key (filter p xs)) (all_at (λ y. key x < key y) xs k r h.0 e) ∙ ap (λ (u : List ℕ). key x ∷ u) more
      go false more = more

  -- ---- elements that change, and keep their keys

  module _ (g : X → X) (keeps : (x : X) → key (g x) ≡ key x) where
    all-map : (n : ℕ) (xs : List X) → AllByRecursion (λ y. n < key y) xs → AllByRecursion (λ y. n < key y) (map g xs)
    all-map n [] h = tt
    all-map n (x ∷ xs) h = (subst (λ (m : ℕ). n < m) (sym (keeps x)) h.0, all-map n xs h.1)

    pub rising-map : (xs : List X) → IsRisingBy key xs → IsRisingBy key (map g xs)
    rising-map [] h = tt
    rising-map (x ∷ xs) h = (subst (λ (m : ℕ). AllByRecursion (λ y. m < key y) (map g xs)) (sym (keeps x)) (all-map (key x) xs h.0), rising-map xs h.1)

    pub passing-map : (p : X → Bool) → ((x : X) → p (g x) ≡ p x) → (xs : List X) → map key (filter p (map g xs)) ≡ map key (filter p xs)
    passing-map p same [] = refl
    passing-map p same (x ∷ xs) = go (p (g x)) (p x) (same x) (passing-map p same xs) where
      go : (a b : Bool) → a ≡ b → map key (filter p (map g xs)) ≡ map key (filter p xs)
          → map key (cond a (g x ∷ filter p (map g xs)) (filter p (map g xs))) ≡ map key (cond b (x ∷ filter p xs) (filter p xs))
      go true true e more = λ i. keeps x i ∷ more i
      go false false e more = more
      go true false e more = absurd (cc)
      go false true e more = absurd (cc)

  -- ---- the elements of several keys, one after the other

  module _ (f : X → X) (keeps : (x : X) → key (f x) ≡ key x) (again : (x : X) → f (f x) ≡ f x) (ts : List ℕ) (t : ℕ) where
    pub one_more : (x : X) → cond (nat_eq t (key (cond (among ts (key x)) (f x) x))) (f (cond (among ts (key x)) (f x) x)) (cond (among ts (key x)) (f x) x)
        ≡ cond (among ts (key x) || (nat_eq t (key x) || false)) (f x) x
    one_more x = go (among ts (key x)) where
      go : (b : Bool) → cond (nat_eq t (key (cond b (f x) x))) (f (cond b (f x) x)) (cond b (f x) x) ≡ cond (b || (nat_eq t (key x) || false)) (f x) x
      go true = inner (nat_eq t (key (f x))) where
        inner : (c : Bool) → cond c (f (f x)) (f x) ≡ f x
        inner true = again x
        inner false = refl
      go false = inner (nat_eq t (key x)) where
        inner : (c : Bool) → cond c (f x) x ≡ cond (c || false) (f x) x
        inner true = refl
        inner false = refl

    pub all_more : (xs : List X) → map (λ x. cond (nat_eq t (key x)) (f x) x) (map (λ x. cond (among ts (key x)) (f x) x) xs)
        ≡ map (λ x. cond (among (ts ++ t ∷ []) (key x)) (f x) x) xs
    all_more [] = refl
    all_more (x ∷ xs) = λ i. (one_more x ∙ ap (λ (b : Bool). cond b (f x) x) (sym (list_any-append (λ (id : ℕ). nat_eq id (key x)) ts (t ∷ [])))) i ∷ all_more xs i

-- ---- those that pass

or_true : (b : Bool) → (b || true) ≡ true
or_true true = refl
or_true false = refl

module _ {X : Type 0} (key : X → ℕ) (p : X → Bool) where
  still_among : (n : ℕ) (ts : List ℕ) (ys : List X) → AllByRecursion (λ x. p x ≡ true → among ts (key x) ≡ true) ys
      → AllByRecursion (λ x. p x ≡ true → among (n ∷ ts) (key x) ≡ true) ys
  still_among n ts [] h = tt
  still_among n ts (y ∷ ys) h = (λ e. ap (λ (b : Bool). nat_eq n (key y) || b) (h.0 e) ∙ or_true (nat_eq n (key y)), still_among n ts ys h.1)

  -- the key of each that passes is among theirs
  pub members : (xs : List X) → AllByRecursion (λ x. p x ≡ true → among (map key (filter p xs)) (key x) ≡ true) xs
  members [] = tt
  members (x ∷ xs) = go (p x) refl (members xs) where
    go : (b : Bool) → p x ≡ b → AllByRecursion (λ y. p y ≡ true → among (map key (filter p xs)) (key y) ≡ true) xs
        → AllByRecursion (λ y. p y ≡ true → among (map key (cond b (x ∷ filter p xs) (filter p xs))) (key y) ≡ true) (x ∷ xs)
    go true e more = (λ h. ap (λ (b : Bool). b || among (map key (filter p xs)) (key x)) (nat_same (key x)), still_among (key x) (map key (filter p xs)) xs more)
    go false e more = (λ h. absurd (let wrong : false ≡ true = sym e ∙ h in cc), more)

  few : (xs : List X) → length (map key (filter p xs)) ≤ length xs
  few [] = omega arith
  few (x ∷ xs) = go (p x) (few xs) where
    go : (b : Bool) → length (map key (filter p xs)) ≤ length xs → length (map key (cond b (x ∷ filter p xs) (filter p xs))) ≤ suc (length xs)
    go true h = omega (arith, h)
    go false h = omega (arith, h)

  pub fewer : (k : ℕ) (r : X) (xs : List X) → slice_get xs k ≡ Some r → p r ≡ false → length (map key (filter p xs)) < length xs
  fewer k r [] e h = absurd (no_element e)
  fewer zero r (x ∷ xs) e h =
      let same : x ≡ r = cc e in
      go (p x) (ap p same ∙ h) (few xs)
    where
      go : (b : Bool) → b ≡ false → length (map key (filter p xs)) ≤ length xs → length (map key (cond b (x ∷ filter p xs) (filter p xs))) < suc (length xs)
      go true f h = absurd (cc)
      go false f h = omega (arith, h)
  fewer (suc k) r (x ∷ xs) e h = go (p x) (fewer k r xs e h) where
    go : (b : Bool) → length (map key (filter p xs)) < length xs → length (map key (cond b (x ∷ filter p xs) (filter p xs))) < suc (length xs)
    go true h = omega (arith, h)
    go false h = omega (arith, h)

pub same_at : {X : Type 0} (f g : X → X) (k : ℕ) (r : X) (xs : List X) → slice_get xs k ≡ Some r → f r ≡ g r → at_place k f xs ≡ at_place k g xs
same_at f g k r [] e h = refl
same_at f g zero r (x ∷ xs) e h = let same : x ≡ r = cc e in λ i. (ap f same ∙ (h ∙ ap g (sym same))) i ∷ xs
same_at f g (suc k) r (x ∷ xs) e h = ap (λ u. x ∷ u) (same_at f g k r xs e h)

-- ---- the place of a ticket

pub found : (t k : ℕ) (rows : List JudgedRow) → ticket_place_in t rows ≡ Some k → (r : JudgedRow) × (slice_get rows k ≡ Some r) × (r.ticket ≡ t)
found t k [] h = absurd (cc)
found t k (x ∷ xs) h = go (nat_eq (ticket_of x) t) refl k h (ticket_place_in t xs) refl (λ n. found t n xs) where
  go : (b : Bool) → nat_eq (ticket_of x) t ≡ b → (k : ℕ) → cond b (Some 0) (option_map suc (ticket_place_in t xs)) ≡ Some k → (o : Option ℕ) → ticket_place_in t xs ≡ o
      → ((n : ℕ) → ticket_place_in t xs ≡ Some n → (r : JudgedRow) × (slice_get xs n ≡ Some r) × (r.ticket ≡ t))
      → (r : JudgedRow) × (slice_get (x ∷ xs) k ≡ Some r) × (r.ticket ≡ t)
  go true e k h o f more = let same : 0 ≡ k = cc h in (x, ap (slice_get (x ∷ xs)) (sym same), nat_decides (ticket_of x) t e)
  go false e k h None f more = absurd (let wrong : None ≡ Some k = sym (ap (option_map suc) f) ∙ h in cc)
  go false e k h (Some n) f more =
      let same : suc n ≡ k = let one : Some (suc n) ≡ Some k = sym (ap (option_map suc) f) ∙ h in cc in
      let at = more n f in
      (at.0, ap (slice_get (x ∷ xs)) (sym same) ∙ at.1, at.2)

either_way : (a b : ℕ) → nat_eq a b ≡ nat_eq b a
either_way a b = go (nat_eq a b) (nat_eq b a) refl refl where
  go : (c d : Bool) → nat_eq a b ≡ c → nat_eq b a ≡ d → c ≡ d
  go true true e f = refl
  go false false e f = refl
  go true false e f = let same = nat_decides a b e in absurd (omega (arith, apart_numbers b a f, same))
  go false true e f = let same = nat_decides b a f in absurd (omega (arith, apart_numbers a b e, same))

-- a change by ticket, of the list and of the rows
pub changed_rows : (f : JudgedRow → JudgedRow) (t : ℕ) (rows : List JudgedRow) → with_change ticket_of t f rows ≡ at_ticket t f rows
changed_rows f t [] = refl
changed_rows f t (r ∷ rows) = λ i. cond (either_way (ticket_of r) t i) (f r) r ∷ changed_rows f t rows i

-- a row that is found by a ticket is at some place of the list, and has this ticket
pub found_row : (t : ℕ) (r : JudgedRow) (rows : List JudgedRow) → find (has_ticket ticket_of t) rows ≡ Some r → (k : ℕ) × (slice_get rows k ≡ Some r) × (ticket_of r ≡ t)
found_row t r [] h = absurd (no_element h)
found_row t r (x ∷ xs) h = go (nat_eq (ticket_of x) t) refl h (found_row t r xs) where
  go : (b : Bool) → nat_eq (ticket_of x) t ≡ b → cond b (Some x) (find (has_ticket ticket_of t) xs) ≡ Some r
      → (find (has_ticket ticket_of t) xs ≡ Some r → (k : ℕ) × (slice_get xs k ≡ Some r) × (ticket_of r ≡ t))
      → (k : ℕ) × (slice_get (x ∷ xs) k ≡ Some r) × (ticket_of r ≡ t)
  go true e h more = let same : x ≡ r = cc h in (0, h, ap ticket_of (sym same) ∙ nat_decides (ticket_of x) t e)
  go false e h more = let at = more h in (suc at.0, at.1, at.2)

pub not_found : (f : JudgedRow → JudgedRow) (t : ℕ) (rows : List JudgedRow) → find (has_ticket ticket_of t) rows ≡ None → rows ≡ at_ticket t f rows
not_found f t [] h = refl
not_found f t (x ∷ xs) h = go (nat_eq (ticket_of x) t) refl h (not_found f t xs) where
  go : (b : Bool) → nat_eq (ticket_of x) t ≡ b → cond b (Some x) (find (has_ticket ticket_of t) xs) ≡ None
      → (find (has_ticket ticket_of t) xs ≡ None → xs ≡ at_ticket t f xs) → x ∷ xs ≡ at_ticket t f (x ∷ xs)
  go true e h more = absurd (no_element (sym h))
  go false e h more = λ i. cond (sym (either_way t (ticket_of x) ∙ e) i) (f x) x ∷ more h i

-- to change the row at a place is to change the row with that row's ticket, if tickets rise
pub placed_row : (f : JudgedRow → JudgedRow) (t k : ℕ) (r : JudgedRow) (rows : List JudgedRow) → IsRisingBy ticket_of rows → slice_get rows k ≡ Some r → ticket_of r ≡ t → at_place k f rows ≡ at_ticket t f rows
placed_row f t k r rows rising at e = placed ticket_of f k r rows rising at ∙ ap (λ (n : ℕ). at_ticket n f rows) e

-- ---- rows that change, and keep their tickets

pub there : {X : Type 0} (xs : List X) (k : ℕ) (d : X) → k < length xs → slice_get xs k ≡ Some (get_or xs k d)
there [] k d lt = absurd (omega (arith, lt))
there (x ∷ xs) zero d lt = refl
there (x ∷ xs) (suc k) d lt = there xs k d (omega (arith, lt))

module _ (f : JudgedRow → JudgedRow) (keeps : (r : JudgedRow) → ticket_of (f r) ≡ ticket_of r) where
  keep_if : (b : Bool) (r : JudgedRow) → ticket_of (cond b (f r) r) ≡ ticket_of r
  keep_if true r = keeps r
  keep_if false r = refl

  pub rising-at : (t : ℕ) (rows : List JudgedRow) → IsRisingBy ticket_of rows → IsRisingBy ticket_of (at_ticket t f rows)
  rising-at t = rising-map ticket_of (λ r. cond (nat_eq t r.ticket) (f r) r) (λ r. keep_if (nat_eq t r.ticket) r)

  pub rising-at_all : (ts : List ℕ) (rows : List JudgedRow) → IsRisingBy ticket_of rows → IsRisingBy ticket_of (at_rows ts f rows)
  rising-at_all ts = rising-map ticket_of (λ r. cond (among ts r.ticket) (f r) r) (λ r. keep_if (among ts r.ticket) r)

  pub tickets-at_all : (p : JudgedRow → Bool) → ((r : JudgedRow) → p (f r) ≡ p r) → (ts : List ℕ) (rows : List JudgedRow) → statement_tickets p (at_rows ts f rows) ≡ statement_tickets p rows
  tickets-at_all p same ts = passing-map ticket_of (λ r. cond (among ts r.ticket) (f r) r) (λ r. keep_if (among ts r.ticket) r) p (λ r. pass_if (among ts r.ticket) r) where
    pass_if : (b : Bool) (r : JudgedRow) → p (cond b (f r) r) ≡ p r
    pass_if true r = same r
    pass_if false r = refl

  pub no_tickets : (rows : List JudgedRow) → at_rows [] f rows ≡ rows
  no_tickets [] = refl
  no_tickets (r ∷ rows) = ap (λ u. r ∷ u) (no_tickets rows)

  -- one more ticket of a list
  pub at_more : ((r : JudgedRow) → f (f r) ≡ f r) → (ts : List ℕ) (i : ℕ) (rows now : List JudgedRow) → i < length ts → now ≡ at_rows (take i ts) f rows
      → at_ticket (get_or ts i 0) f now ≡ at_rows (take (i + 1) ts) f rows
  at_more again ts i rows now lt h =
      ap (at_ticket (get_or ts i 0) f) h
      ∙ (all_more ticket_of f keeps again (take i ts) (get_or ts i 0) rows ∙ ap (λ (us : List ℕ). at_rows us f rows) (sym (take_more ts i 0 lt)))

same_decides : (a b : Truth) → Decides (same_truth a b) (a ≡ b)
same_decides a b = search rules

pub unchanged_is : (a b : Truth) → not (same_truth a b) ≡ false → a ≡ b
unchanged_is a b h = (same_decides a b).0 (by (same_truth a b) h)
  where
    by : (t : Bool) → not t ≡ false → t ≡ true
    by true none = refl
    by false none = absurd (cc)

know_one : (ts : List ℕ) (r : JudgedRow) → (is_changed r ≡ true → among ts (ticket_of r) ≡ true) → cond (among ts (ticket_of r)) (forget_change r) r ≡ forget_change r
know_one ts r h = go (among ts (ticket_of r)) (is_changed r) refl h where
  go : (b c : Bool) → is_changed r ≡ c → (c ≡ true → b ≡ true) → cond b (forget_change r) r ≡ forget_change r
  go true c e h = refl
  go false true e h = absurd (let wrong : false ≡ true = h refl in cc)
  go false false e h = ap (λ (t : Truth). record r { known = t }) (sym (unchanged_is r.verdict r.known e))

-- if these are the tickets of the changed rows, then all verdicts are known
know_these : (ts : List ℕ) (rows : List JudgedRow) → AllByRecursion (λ r. is_changed r ≡ true → among ts (ticket_of r) ≡ true) rows → at_rows ts forget_change rows ≡ map forget_change rows
know_these ts [] h = refl
know_these ts (r ∷ rows) h = λ i. know_one ts r h.0 i ∷ know_these ts rows h.1 i

pub all_known : (rows : List JudgedRow) → at_rows (statement_tickets is_changed rows) forget_change rows ≡ map forget_change rows
all_known rows = know_these (statement_tickets is_changed rows) rows (members ticket_of is_changed rows)

-- ---- room

pub still_room : (n m was now : ℕ) → n ≡ m → now ≡ was → m ≤ was → n ≤ now
still_room n m was now e f h = omega (arith, e, f, h)

pub room_for : (xs ts : List ℕ) (n capacity : ℕ) → xs ≡ ts → length ts < n → n ≤ capacity → length xs < capacity
room_for xs ts n capacity e lt le = let same = ap length e in omega (arith, same, lt, le)
