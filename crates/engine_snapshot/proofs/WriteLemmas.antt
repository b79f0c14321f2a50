-- Rows that are written one after another, by their places.
use Rattle.std.proofs.Common.{◌≡◌, refl, sym, ap, subst, ◌∙◌, ℕ, zero, suc, ◌+◌, ◌<◌, ◌||◌, Bool, true, false, cond, List, [], ◌∷◌, ◌++◌, length, take, get_or, Option, Some, None, slice_get, append_assoc, add-one, position}
use Rattle.std.specs.Prelude.{IfOk, IfSome, Result, Ok, Err, filter_map}
use Rattle.std.specs.List.{AllByRecursion, flat_map, list_any, list_all, position_from}
use Rattle.std.specs.Option.{option_map_or}
use Rattle.std.proofs.lemmas.List.{append-nil, length-map, take_more}
use Rattle.std.proofs.lemmas.List.Concat.{flat_map-append}
use Rattle.std.proofs.lemmas.Bool.{and_parts}
use Rattle.std.proofs.lemmas.Option.{none-some, same_Some}
use Rattle.std.proofs.lemmas.List.Folds.{flat_map-map}
use Rattle.std.proofs.lemmas.Iterator.Adapters.{position_from-zero}
use Rattle.cpe_rows.specs.Rows.{Rows}
use Rattle.snapshot_bytes.specs.Parts.{name, number}
use Rattle.snapshot_bytes.specs.Snapshot.{entry_row, head, mark, result_row, statement_row}
use Rattle.snapshot_bytes.specs.States.{placed_entry, placed_rows, result_of, snapshot}

-- ---- rows by their places

rows_more : {A : Type 0} (f : A → List ℕ) (xs : List A) (k : ℕ) → flat_map f (take (suc k) xs) ≡ flat_map f (take k xs) ++ option_map_or f (slice_get xs k) []
rows_more f [] zero = refl
rows_more f [] (suc k) = refl
rows_more f (x ∷ xs) zero = append-nil (f x)
rows_more f (x ∷ xs) (suc k) = ap (λ (l : List ℕ). f x ++ l) (rows_more f xs k) ∙ sym (append_assoc (f x) (flat_map f (take k xs)) (option_map_or f (slice_get xs k) []))

pub next_row : {A : Type 0} (f : A → List ℕ) (xs : List A) (k : ℕ) (start out next : List ℕ) → out ≡ start ++ flat_map f (take k xs) → next ≡ out ++ option_map_or f (slice_get xs k) []
    → next ≡ start ++ flat_map f (take (k + 1) xs)
next_row f xs k start out next so_far one =
    one ∙ ap (λ (l : List ℕ). l ++ option_map_or f (slice_get xs k) []) so_far ∙ append_assoc start (flat_map f (take k xs)) (option_map_or f (slice_get xs k) [])
    ∙ ap (λ (l : List ℕ). start ++ l) (sym (rows_more f xs k)) ∙ ap (λ n. start ++ flat_map f (take n xs)) (sym (add-one k))

holds_more : {A : Type 0} (P : A → Type 0) (xs : List A) (k : ℕ) → AllByRecursion P (take k xs) → IfSome (slice_get xs k) P → AllByRecursion P (take (suc k) xs)
holds_more P [] zero all one = tt
holds_more P [] (suc k) all one = tt
holds_more P (x ∷ xs) zero all one = (one, tt)
holds_more P (x ∷ xs) (suc k) all one = (all.0, holds_more P xs k all.1 one)

pub next_holds : {A : Type 0} (P : A → Type 0) (xs : List A) (k : ℕ) → AllByRecursion P (take k xs) → IfSome (slice_get xs k) P → AllByRecursion P (take (k + 1) xs)
next_holds P xs k all one = subst (λ n. AllByRecursion P (take n xs)) (sym (add-one k)) (holds_more P xs k all one)

-- ---- slots

pub next_slot : {A : Type 0} (f : A → List ℕ) (slots : List (Option A)) (k : ℕ) (start out next : List ℕ) → k < length slots → out ≡ start ++ flat_map (λ (o : Option A). option_map_or f o []) (take k slots)
    → next ≡ out ++ option_map_or f (get_or slots k None) [] → next ≡ start ++ flat_map (λ (o : Option A). option_map_or f o []) (take (k + 1) slots)
next_slot {A} f slots k start out next below so_far one =
    let row : Option A → List ℕ = λ o. option_map_or f o [] in
    let s = get_or slots k None in
    one ∙ ap (λ (l : List ℕ). l ++ row s) so_far ∙ append_assoc start (flat_map row (take k slots)) (row s)
    ∙ ap (λ (l : List ℕ). start ++ (flat_map row (take k slots) ++ l)) (sym (append-nil (row s)))
    ∙ ap (λ (l : List ℕ). start ++ l) (sym (flat_map-append row (take k slots) (s ∷ [])))
    ∙ ap (λ l. start ++ flat_map row l) (sym (take_more slots k None below))

pub slots_are : {A : Type 0} (f : A → List ℕ) (slots : List (Option A)) → flat_map (λ (o : Option A). option_map_or f o []) slots ≡ flat_map f (filter_map (λ (o : Option A). o) slots)
slots_are f [] = refl
slots_are f (None ∷ slots) = slots_are f slots
slots_are f (Some x ∷ slots) = ap (λ (l : List ℕ). f x ++ l) (slots_are f slots)

-- ---- places of names

position_there : {A : Type 0} (p : A → Bool) (k : ℕ) (xs : List A) → position_from p k xs ≡ None → list_any p xs ≡ false
position_there p k [] none = refl
position_there p k (x ∷ xs) none = go (p x) none (position_there p (k + 1) xs) where
  go : (b : Bool) → cond b (Some k) (position_from p (k + 1) xs) ≡ None → (position_from p (k + 1) xs ≡ None → list_any p xs ≡ false) → b || list_any p xs ≡ false
  go true e later = absurd cc
  go false e later = later e

-- an element of a list has a place
pub has_place : {A : Type 0} (p : A → Bool) (xs : List A) → list_any p xs ≡ true → position p xs ≡ None → ⊥
has_place p xs any none = let not_there = position_there p 0 xs (sym (position_from-zero p xs) ∙ none) in cc

-- what holds for all elements holds at each place
pub holds_at : {A : Type 0} (p : A → Bool) (xs : List A) (k : ℕ) (x : A) → list_all p xs ≡ true → slice_get xs k ≡ Some x → p x ≡ true
holds_at p [] zero x all at = absurd (none-some x at)
holds_at p [] (suc k) x all at = absurd (none-some x at)
holds_at p (y ∷ xs) zero x all at = ap p (sym (same_Some y x at)) ∙ (and_parts (p y) (list_all p xs) all).0
holds_at p (y ∷ xs) (suc k) x all at = holds_at p xs k x (and_parts (p y) (list_all p xs) all).1 at

-- what holds for the first elements, and for the next, holds for one more
pub holds_next : {A : Type 0} (P : A → Type 0) (xs : List A) (k : ℕ) (d : A) → k < length xs → AllByRecursion P (take k xs) → P (get_or xs k d) → AllByRecursion P (take (k + 1) xs)
holds_next P xs k d below all one = subst (AllByRecursion P) (sym (take_more xs k d below)) (last (take k xs) all) where
  last : (ys : List _) → AllByRecursion P ys → AllByRecursion P (ys ++ get_or xs k d ∷ [])
  last [] all = (one, tt)
  last (y ∷ ys) all = (all.0, last ys all.1)

-- ---- all rows

five_groups : (h e i s r : List ℕ) → (((h ++ e) ++ i) ++ s) ++ r ≡ h ++ (e ++ (i ++ (s ++ r)))
five_groups h e i s r = simp append_assoc

pub all_written : (rows : Rows) (a b c d : ℕ) (room one two three four : List ℕ) → a ≡ length rows.entries → b ≡ length rows.items → c ≡ length rows.statements → d ≡ length rows.checks → room ≡ []
    → one ≡ room ++ (mark ++ (number a ++ (number b ++ (number c ++ number d)))) → two ≡ one ++ flat_map (λ e. entry_row (placed_entry rows.entries e)) rows.entries → three ≡ two ++ flat_map name rows.items
    → four ≡ three ++ flat_map statement_row rows.statements → four ++ flat_map (λ k. result_row (result_of k)) rows.checks ≡ snapshot rows
all_written rows a b c d room one two three four ea eb ec ed none e1 e2 e3 e4 =
    let h : List ℕ = mark ++ (number a ++ (number b ++ (number c ++ number d))) in
    let e : List ℕ = flat_map (λ x. entry_row (placed_entry rows.entries x)) rows.entries in
    let i : List ℕ = flat_map name rows.items in
    let s : List ℕ = flat_map statement_row rows.statements in
    let r : List ℕ = flat_map (λ k. result_row (result_of k)) rows.checks in
    let entries = ea ∙ sym (length-map rows.entries (placed_entry rows.entries)) in
    let results = ed ∙ sym (length-map rows.checks result_of) in
    let heads : h ≡ head (placed_rows rows) = λ j. mark ++ (number (entries j) ++ (number (eb j) ++ (number (ec j) ++ number (results j)))) in
    let rows_of_entries = sym (flat_map-map entry_row (placed_entry rows.entries) rows.entries) in
    let rows_of_results = sym (flat_map-map result_row result_of rows.checks) in
    ap (λ (l : List ℕ). l ++ r) (e4 ∙ ap (λ (l : List ℕ). l ++ s) (e3 ∙ ap (λ (l : List ℕ). l ++ i) (e2 ∙ ap (λ (l : List ℕ). l ++ e) (e1 ∙ ap (λ (l : List ℕ). l ++ h) none))))
    ∙ five_groups h e i s r ∙ (λ j. heads j ++ (rows_of_entries j ++ (i ++ (s ++ rows_of_results j))))

-- what follows for a value from two clauses
pub by_both : {T E : Type 0} (r : Result T E) (P Q R : T → Type 0) → IfOk r P → IfOk r Q → ((x : T) → P x → Q x → R x) → IfOk r R
by_both (Ok x) P Q R p q both = both x p q
by_both (Err e) P Q R p q both = tt
