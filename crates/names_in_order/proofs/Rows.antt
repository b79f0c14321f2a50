-- Lemmas: the elements at the places of the covered names.
use Rattle.std.proofs.Common.{◌≡◌, ℕ, suc, ◌+◌, ◌<◌, Bool, true, false, cond, List, [], ◌∷◌, ◌++◌, map, length, filter, drop, get_or, Option, Some, None, slice_get, refl, sym, ap, ◌∙◌, arith, append_assoc, option_map}
use Rattle.std.specs.List.{cons_option, range_with_len}
use Rattle.std.proofs.Math.Seq.{drop-cons}
use Rattle.std.proofs.lemmas.List.{length-map, map-id}
use Rattle.std.proofs.lemmas.Option.{slice_get-map, get_or_from_slice_get}
use Rattle.name_index.specs.cpe_name.Eleven.{Values}
use Rattle.name_index.specs.cpe_name.Names.{any_values}
use Rattle.cpe_relation.specs.NameRelation.{covers}
use Rattle.names_in_order.specs.Places.{name_of_place, places_covered, rows_at}

after_one : (i : ℕ) → suc i ≡ i + 1
after_one i = omega arith

-- The rest of a list from a place begins with the element at this place.
pub item_first : {A : Type 0} (xs : List A) (i : ℕ) (d : A) → i < length xs → drop i xs ≡ get_or xs i d ∷ drop (i + 1) xs
item_first xs i d lt = drop-cons xs i d lt ∙ ap (λ (k : ℕ). get_or xs i d ∷ drop k xs) (after_one i)

-- The rest of a list from a place begins with any element that equals the one at this place.
pub this_first : {A : Type 0} (xs : List A) (i : ℕ) (x : A) → i < length xs → x ≡ get_or xs i x → drop i xs ≡ x ∷ drop (i + 1) xs
this_first xs i x lt is = item_first xs i x lt ∙ ap (λ y. y ∷ drop (i + 1) xs) (sym is)

module _ {A : Type 0} where
  -- The elements that pass a test are the elements at the places that pass.
  pub rows_from : (p : ℕ → Bool) (q : A → Bool) (all rest : List A) (a : ℕ) → ((k : ℕ) (x : A) → slice_get all k ≡ Some x → p k ≡ q x) → ((k : ℕ) → slice_get all (a + k) ≡ slice_get rest k)
      → rows_at all (filter p (range_with_len a (length rest))) ≡ filter q rest
  rows_from p q all [] a agree is = refl
  rows_from p q all (x ∷ rest) a agree is =
      by (p a) (agree a x here) ∙ ap (λ (b : Bool). cond b (x ∷ rows_at all (filter p (range_with_len (a + 1) (length rest)))) (rows_at all (filter p (range_with_len (a + 1) (length rest))))) (agree a x here)
      ∙ ap (λ (xs : List A). cond (q x) (x ∷ xs) xs) (rows_from p q all rest (a + 1) agree (λ k. ap (slice_get all) (shifted k) ∙ is (suc k)))
    where
      here : slice_get all a ≡ Some x
      here = ap (slice_get all) (omega (arith)) ∙ is 0

      shifted : (k : ℕ) → a + 1 + k ≡ a + suc k
      shifted k = omega arith

      by : (b : Bool) → b ≡ q x → rows_at all (cond b (a ∷ filter p (range_with_len (a + 1) (length rest))) (filter p (range_with_len (a + 1) (length rest)))) ≡ cond b (x ∷ rows_at all (filter p (range_with_len (a + 1) (length rest)))) (rows_at all (filter p (range_with_len (a + 1) (length rest))))
      by true e = ap (λ (o : Option A). cons_option o (rows_at all (filter p (range_with_len (a + 1) (length rest))))) here
      by false e = refl

  pub covered_rows : (name_of : A → Values) (name : Values) (rows : List A) → rows_at rows (places_covered name (map name_of rows)) ≡ filter (λ x. covers name (name_of x)) rows
  covered_rows name_of name rows =
      ap (λ (n : ℕ). rows_at rows (filter (λ k. covers name (name_of_place (map name_of rows) k)) (range_with_len 0 n))) (length-map rows name_of)
      ∙ rows_from (λ k. covers name (name_of_place (map name_of rows) k)) (λ x. covers name (name_of x)) rows rows 0 (λ k x at. ap (covers name) (get_or_from_slice_get (map name_of rows) k (name_of x) any_values (slice_get-map name_of rows k ∙ ap (option_map name_of) at))) (λ k. ap (slice_get rows) (omega arith))

  -- Lemmas: reading the elements at a list of places, one place after the other.
  module _ {B : Type 0} (of : A → List B) (join : List A → List B) (each : (x : A) (xs : List A) → join (x ∷ xs) ≡ of x ++ join xs) where
    there : (rows : List A) (done : List B) (k : ℕ) (ks : List ℕ) (x : A) → slice_get rows k ≡ Some x → (done ++ of x) ++ join (rows_at rows ks) ≡ done ++ join (rows_at rows (k ∷ ks))
    there rows done k ks x at =
        append_assoc done (of x) (join (rows_at rows ks))
        ∙ ap (λ (xs : List B). done ++ xs) (sym (each x (rows_at rows ks)) ∙ ap (λ (o : Option A). join (cons_option o (rows_at rows ks))) (sym at))

    -- What is read, followed by what is still to be read, is unchanged by a step, if the list has the next place.
    pub next_there : (rows : List A) (ks : List ℕ) (i : ℕ) (x : A) (done now all : List B) → i < length ks → slice_get rows (get_or ks i 0) ≡ Some x → now ≡ done ++ of x
        → done ++ join (rows_at rows (drop i ks)) ≡ all → now ++ join (rows_at rows (drop (i + 1) ks)) ≡ all
    next_there rows ks i x done now all lt at is before =
        let rest = drop (i + 1) ks in
        ap (λ (ys : List B). ys ++ join (rows_at rows rest)) is ∙ there rows done (get_or ks i 0) rest x at ∙ ap (λ (ns : List ℕ). done ++ join (rows_at rows ns)) (sym (item_first ks i 0 lt)) ∙ before

    -- What is read, followed by what is still to be read, is unchanged by a step, if the list doesn't have the next
    -- place.
    pub next_missing : (rows : List A) (ks : List ℕ) (i : ℕ) (done now all : List B) → i < length ks → slice_get rows (get_or ks i 0) ≡ None → now ≡ done
        → done ++ join (rows_at rows (drop i ks)) ≡ all → now ++ join (rows_at rows (drop (i + 1) ks)) ≡ all
    next_missing rows ks i done now all lt at is before =
        let rest = drop (i + 1) ks in
        ap (λ (ys : List B). ys ++ join (rows_at rows rest)) is ∙ ap (λ (o : Option A). done ++ join (cons_option o (rows_at rows rest))) (sym at)
        ∙ ap (λ (ns : List ℕ). done ++ join (rows_at rows ns)) (sym (item_first ks i 0 lt)) ∙ before

-- The names at the places of the covered names are the covered names.
pub covered_names : (name : Values) (ns : List Values) → rows_at ns (places_covered name ns) ≡ filter (covers name) ns
covered_names name ns = ap (λ (ms : List Values). rows_at ns (places_covered name ms)) (sym (map-id ns)) ∙ covered_rows (λ (n : Values). n) name ns
