-- Lemmas: products by place, and their numbers.
use Rattle.std.proofs.Common.{◌≡◌, ◌≢◌, ℕ, zero, suc, ◌+◌, ◌-◌, ◌<◌, ◌≤◌, Bool, true, false, ◌||◌, cond, List, [], ◌∷◌, ◌++◌, length, get_or, set, take, Option, Some, None, refl, sym, ap, subst, ◌∙◌, inl, inr, arith, length-set}
use Rattle.std.specs.Prelude.{IsSome}
use Rattle.std.specs.List.{AllByRecursion, IsDistinct, list_any, slice_get, swap_remove, position}
use Rattle.std.proofs.lemmas.Bool.{cases_eq, cases_lt, both_ways, or_cases, false_from_ne_true}
use Rattle.std.proofs.lemmas.Option.{slice_get_past, slice_get_within, slice_get-get_or, same_Some}
use Rattle.std.proofs.lemmas.List.{get_or-set_same, get_or-set_other, get_or_append_left, get_or_push, length_push, length-map, length-take-le}
use Rattle.std.proofs.lemmas.List.Quantifiers.{position-Some}
use Rattle.cpe_values.specs.declared.value.Value.{Value}
use Rattle.cpe_values.specs.declared.value.Value.TheVariants as value
use Rattle.cpe_values.specs.Same.{same_value}
use Rattle.cpe_values.specs.Equal.{same_value-Decides}
use Rattle.name_index.specs.Listed.{product_at, AddsProduct, Removes}
use Rattle.name_index.specs.Placed.{number_at, by_number, Undoes, ArePlacedProducts, Grows, freed_products, freed_places}
use Rattle.name_index.proofs.Live.{none_past, known}

-- ---- the product of a number

pub at_number : (values : List Value) (places : List ℕ) (n : ℕ) → n < length places → product_at (by_number values places) n ≡ slice_get values (number_at places n)
at_number values [] n lt = absurd (omega (arith, lt))
at_number values (p ∷ places) zero lt = refl
at_number values (p ∷ places) (suc n) lt = at_number values places n (omega (arith, lt))

pub past_number : (values : List Value) (places : List ℕ) (n : ℕ) → length places ≤ n → product_at (by_number values places) n ≡ None
past_number values places n le = none_past (by_number values places) n (omega (arith, le, length-map places (λ place. slice_get values place)))

pub number_known : (values : List Value) (places : List ℕ) (n : ℕ) (v : Value) → product_at (by_number values places) n ≡ Some v → n < length places
number_known values places n v h = omega (arith, known (by_number values places) n v h, length-map places (λ place. slice_get values place))

-- ---- where a product is found

pub position_is : (values : List Value) (v : Value) (i : ℕ) → position (same_value v) values ≡ Some i → slice_get values i ≡ Some v
position_is values v i h =
    let p = position-Some (same_value v) values i v h in
    slice_get-get_or values i v p.0 ∙ ap Some (sym ((same_value-Decides v (get_or values i v)).0 p.1))

any_place : (values : List Value) (v : Value) → list_any (same_value v) values ≡ true → (place : ℕ) × (place < length values) × (slice_get values place ≡ Some v)
any_place [] v h = absurd cc
any_place (w ∷ values) v h = elim (or_cases (same_value v w) (list_any (same_value v) values) h) [
  | inl here ↦ (0, omega arith, ap Some (sym ((same_value-Decides v w).0 here)))
  | inr there ↦ let c = any_place values v there in (suc c.0, omega (arith, c.1), c.2)
]

place_any : (values : List Value) (v : Value) (place : ℕ) → slice_get values place ≡ Some v → list_any (same_value v) values ≡ true
place_any [] v place h = absurd cc
place_any (w ∷ values) v zero h = ap (λ (b : Bool). b || list_any (same_value v) values) ((same_value-Decides v w).1 (sym (same_Some w v h)))
place_any (w ∷ values) v (suc place) h = by (same_value v w) (place_any values v place h)
  where
    by : (b : Bool) → list_any (same_value v) values ≡ true → (b || list_any (same_value v) values) ≡ true
    by true e = refl
    by false e = e

-- Different products have different places.
apart : (values : List Value) (n : ℕ) (v : Value) → AllByRecursion (λ y. same_value v y ≡ false) values → slice_get values n ≡ Some v → ⊥
apart [] n v d h = absurd cc
apart (w ∷ values) zero v d h = both_ways (same_value v w) d.0 ((same_value-Decides v w).1 (sym (same_Some w v h)))
apart (w ∷ values) (suc n) v d h = apart values n v d.1 h

one_place : (values : List Value) (m n : ℕ) (v : Value) → IsDistinct same_value values → slice_get values m ≡ Some v → slice_get values n ≡ Some v → m ≡ n
unfolding IsDistinct
one_place [] m n v d h k = absurd cc
one_place (w ∷ values) zero zero v d h k = refl
one_place (w ∷ values) zero (suc n) v d h k = absurd (apart values n v (subst (λ (x : Value). AllByRecursion (λ y. same_value x y ≡ false) values) (same_Some w v h) d.0) k)
one_place (w ∷ values) (suc m) zero v d h k = absurd (apart values m v (subst (λ (x : Value). AllByRecursion (λ y. same_value x y ≡ false) values) (same_Some w v k) d.0) h)
one_place (w ∷ values) (suc m) (suc n) v d h k = ap suc (one_place values m n v d.1 h k)

-- A product that no number has is at no place; a product at a place has a number.
module _ (values : List Value) (numbers places : List ℕ) (a : ArePlacedProducts values numbers places) where
  pub found_number : (place : ℕ) (v : Value) → slice_get values place ≡ Some v → product_at (by_number values places) (number_at numbers place) ≡ Some v
  found_number place v h =
      let lt : place < length places = omega (arith, slice_get_within values place v h, a.within) in
      at_number values places (number_at numbers place) (a.there place lt).0 ∙ ap (slice_get values) (a.there place lt).1 ∙ h

  pub not_there : (v : Value) → ((number : ℕ) → product_at (by_number values places) number ≡ Some v → ⊥) → list_any (same_value v) values ≡ false
  not_there v fresh = false_from_ne_true _ (λ e. let c = any_place values v e in fresh (number_at numbers c.0) (found_number c.0 v c.2))

  pub nowhere : (v : Value) → list_any (same_value v) values ≡ false → (number : ℕ) → product_at (by_number values places) number ≡ Some v → ⊥
  nowhere v none number h = both_ways _ none (place_any values v (number_at places number) (sym (at_number values places number (number_known values places number v h)) ∙ h))

  pub inside_values : (number : ℕ) (v : Value) → product_at (by_number values places) number ≡ Some v → number_at places number < length values
  inside_values number v h = slice_get_within values (number_at places number) v (sym (at_number values places number (number_known values places number v h)) ∙ h)

  pub one_number : (m n : ℕ) (v : Value) → product_at (by_number values places) m ≡ Some v → product_at (by_number values places) n ≡ Some v → m ≡ n
  one_number m n v h k =
      let lm = number_known values places m v h in
      let ln = number_known values places n v k in
      let same = one_place values (number_at places m) (number_at places n) v a.different (sym (at_number values places m lm) ∙ h) (sym (at_number values places n ln) ∙ k) in
      sym (a.back m lm).1 ∙ ap (number_at numbers) same ∙ (a.back n ln).1

-- ---- two lists that undo each other

longer_undoes : (len : ℕ) (xs ys : List ℕ) → length xs ≡ len → length ys ≡ len → Undoes len xs ys → Undoes (len + 1) (xs ++ len ∷ []) (ys ++ len ∷ [])
longer_undoes len xs ys lx ly u i lt = elim (cases_lt i len) [
  | inl old ↦
      let x : number_at (xs ++ len ∷ []) i ≡ number_at xs i = get_or_append_left xs (len ∷ []) 0 i (omega (arith, old, lx)) in
      (omega (arith, x, (u i old).0), ap (number_at (ys ++ len ∷ [])) x ∙ get_or_append_left ys (len ∷ []) 0 (number_at xs i) (omega (arith, (u i old).0, ly)) ∙ (u i old).1)
  | inr le ↦
      let is : i ≡ len = omega (arith, le, lt) in
      let x : number_at (xs ++ len ∷ []) i ≡ len = get_or_push xs len 0 i (lx ∙ sym is) in
      (omega (arith, x), ap (number_at (ys ++ len ∷ [])) x ∙ get_or_push ys len 0 len ly ∙ sym is)
]

-- A list after two places were written, one after the other.
module _ (zs : List ℕ) (a b c d : ℕ) where
  at_last : c < length zs → number_at (set (set zs a b) c d) c ≡ d
  at_last lt = get_or-set_same (set zs a b) c d 0 (omega (arith, lt, length-set zs a b))

  at_first : a < length zs → a ≢ c → number_at (set (set zs a b) c d) a ≡ b
  at_first lt ne = get_or-set_other (set zs a b) c a d 0 ne ∙ get_or-set_same zs a b 0 lt

  at_other : (i : ℕ) → i ≢ c → i ≢ a → number_at (set (set zs a b) c d) i ≡ number_at zs i
  at_other i nc na = get_or-set_other (set zs a b) c i d 0 nc ∙ get_or-set_other zs a i b 0 na

-- Two pairs exchange their partners.
module _ (len : ℕ) (xs ys : List ℕ) (a b c d : ℕ) (lx : length xs ≡ len) (ly : length ys ≡ len) (la : a < len) (lb : b < len) (lc : c < len) (ld : d < len) (xa : number_at xs a ≡ d) (xc : number_at xs c ≡ b) (yb : number_at ys b ≡ c) (yd : number_at ys d ≡ a) where
  abbrev pub new_xs : List ℕ
  new_xs = set (set xs a b) c d

  abbrev pub new_ys : List ℕ
  new_ys = set (set ys b a) d c

  pub exchanged : Undoes len xs ys → Undoes len new_xs new_ys
  exchanged u i lt = elim (cases_eq i c) [
    | inl is ↦
        let x = ap (number_at new_xs) is ∙ at_last xs a b c d (omega (arith, lc, lx)) in
        (omega (arith, x, ld), ap (number_at new_ys) x ∙ at_last ys b a d c (omega (arith, ld, ly)) ∙ sym is)
    | inr nc ↦ elim (cases_eq i a) [
      | inl is ↦
          let ac : a ≢ c = λ e. nc (is ∙ e) in
          let bd : b ≢ d = λ e. ac (sym yd ∙ sym (ap (number_at ys) e) ∙ yb) in
          let x = ap (number_at new_xs) is ∙ at_first xs a b c d (omega (arith, la, lx)) ac in
          (omega (arith, x, lb), ap (number_at new_ys) x ∙ at_first ys b a d c (omega (arith, lb, ly)) bd ∙ sym is)
      | inr na ↦
          let x = at_other xs a b c d i nc na in
          let nd : number_at xs i ≢ d = λ e. na (sym (u i lt).1 ∙ ap (number_at ys) e ∙ yd) in
          let nb : number_at xs i ≢ b = λ e. nc (sym (u i lt).1 ∙ ap (number_at ys) e ∙ yb) in
          (omega (arith, x, (u i lt).0), ap (number_at new_ys) x ∙ at_other ys b a d c (number_at xs i) nd nb ∙ (u i lt).1)
    ]
  ]

-- ---- lists of products

get_take : (xs : List Value) (k q : ℕ) → q < k → slice_get (take k xs) q ≡ slice_get xs q
get_take [] zero q lt = absurd (omega (arith, lt))
get_take [] (suc k) q lt = refl
get_take (x ∷ xs) zero q lt = absurd (omega (arith, lt))
get_take (x ∷ xs) (suc k) zero lt = refl
get_take (x ∷ xs) (suc k) (suc q) lt = get_take xs k q (omega (arith, lt))

get_set_other : (xs : List Value) (i q : ℕ) (x : Value) → q ≢ i → slice_get (set xs i x) q ≡ slice_get xs q
get_set_other [] i q x ne = refl
get_set_other (y ∷ xs) zero zero x ne = absurd (ne refl)
get_set_other (y ∷ xs) zero (suc q) x ne = refl
get_set_other (y ∷ xs) (suc i) zero x ne = refl
get_set_other (y ∷ xs) (suc i) (suc q) x ne = get_set_other xs i q x (λ e. ne (ap suc e))

get_set_same : (xs : List Value) (i : ℕ) (x : Value) → i < length xs → slice_get (set xs i x) i ≡ Some x
get_set_same [] i x lt = absurd (omega (arith, lt))
get_set_same (y ∷ xs) zero x lt = refl
get_set_same (y ∷ xs) (suc i) x lt = get_set_same xs i x (omega (arith, lt))

get_push_other : (xs : List Value) (x : Value) (q : ℕ) → q ≢ length xs → slice_get (xs ++ x ∷ []) q ≡ slice_get xs q
get_push_other [] x zero ne = absurd (ne refl)
get_push_other [] x (suc q) ne = refl
get_push_other (y ∷ xs) x zero ne = refl
get_push_other (y ∷ xs) x (suc q) ne = get_push_other xs x q (λ e. ne (ap suc e))

get_push : (xs : List Value) (x : Value) → slice_get (xs ++ x ∷ []) (length xs) ≡ Some x
get_push [] x = refl
get_push (y ∷ xs) x = get_push xs x

-- ---- a number is made ready

module _ (values : List Value) (numbers places : List ℕ) (a : ArePlacedProducts values numbers places) where
  -- A new number follows all other numbers.
  pub grown : length values ≡ length places → length places < 4294967295 → ArePlacedProducts values (numbers ++ length places ∷ []) (places ++ length places ∷ [])
  grown full few =
      let n = length places in
      let ln = length_push numbers n in
      let lp : length (places ++ n ∷ []) ≡ n + 1 = length_push places n in
      record {
        paired = ln ∙ ap (λ (k : ℕ). k + 1) a.paired ∙ sym lp;
        few = omega (arith, few, lp);
        within = omega (arith, full, lp);
        there = subst (λ (k : ℕ). Undoes k (numbers ++ n ∷ []) (places ++ n ∷ [])) (sym lp) (longer_undoes n numbers places a.paired refl a.there);
        back = subst (λ (k : ℕ). Undoes k (places ++ n ∷ []) (numbers ++ n ∷ [])) (sym lp) (longer_undoes n places numbers refl a.paired a.back);
        different = a.different;
      }

  pub grown_same : length values ≡ length places → (n : ℕ) → product_at (by_number values (places ++ length places ∷ [])) n ≡ product_at (by_number values places) n
  grown_same full n = elim (cases_lt n (length places)) [
    | inl old ↦
        at_number values more n (omega (arith, old, len)) ∙ ap (slice_get values) (get_or_append_left places (length places ∷ []) 0 n old) ∙ sym (at_number values places n old)
    | inr le ↦ elim (cases_eq n (length places)) [
      | inl is ↦
          at_number values more n (omega (arith, is, len)) ∙ ap (slice_get values) (get_or_push places (length places) 0 n (sym is)) ∙ slice_get_past values (length places) (omega (arith, full)) ∙ sym (past_number values places n le)
      | inr ne ↦ past_number values more n (omega (arith, le, ne, len)) ∙ sym (past_number values places n le)
    ]
  ]
    where
      more : List ℕ
      more = places ++ length places ∷ []

      len : length (places ++ length places ∷ []) ≡ length places + 1
      len = length_push places (length places)

  -- A product is appended at the first place after the products, whose number is free.
  module _ (v : Value) (free : length values < length places) where
    abbrev p : ℕ
    p = length values

    pub given_placed : IsDistinct same_value (values ++ v ∷ []) → ArePlacedProducts (values ++ v ∷ []) numbers places
    given_placed different = record {
      paired = a.paired;
      few = a.few;
      within = omega (arith, free, length_push values v);
      there = a.there;
      back = a.back;
      different = different;
    }

    pub given : AddsProduct (by_number values places) (by_number (values ++ v ∷ []) places) (number_at numbers p) v
    given = record {
      free = at_number values places (number_at numbers p) (a.there p free).0 ∙ ap (slice_get values) (a.there p free).1 ∙ slice_get_past values p (omega arith);
      added = at_number (values ++ v ∷ []) places (number_at numbers p) (a.there p free).0 ∙ ap (slice_get (values ++ v ∷ [])) (a.there p free).1 ∙ get_push values v;
      others = λ n ne. elim (cases_lt n (length places)) [
        | inl lt ↦
            let elsewhere : number_at places n ≢ p = λ e. ne (sym (a.back n lt).1 ∙ ap (number_at numbers) e) in
            at_number (values ++ v ∷ []) places n lt ∙ get_push_other values v (number_at places n) elsewhere ∙ sym (at_number values places n lt)
        | inr le ↦ past_number (values ++ v ∷ []) places n le ∙ sym (past_number values places n le)
      ];
    }

pub record Added (values : List Value) (places : List ℕ) (new_values : List Value) (new_numbers new_places : List ℕ) (n : ℕ) (v : Value) : Type 0 where
  pub placed : ArePlacedProducts new_values new_numbers new_places
  pub adds : AddsProduct (by_number values places) (by_number new_values new_places) n v

pub added : (values : List Value) (numbers places : List ℕ) (v : Value) (place : ℕ) (new_numbers new_places : List ℕ) → ArePlacedProducts values numbers places → place ≡ length values → IsDistinct same_value (values ++ v ∷ []) → Grows numbers places place new_numbers new_places
    → Added values places (values ++ v ∷ []) new_numbers new_places (number_at new_numbers place) v
added values numbers places v place new_numbers new_places a at different (Grows.kept_room lt e f) =
    let free : length values < length places = omega (arith, lt, at) in
    subst (λ (k : ℕ). Added values places (values ++ v ∷ []) new_numbers new_places (number_at new_numbers k) v) (sym at)
    (subst (λ (ns : List ℕ). Added values places (values ++ v ∷ []) ns new_places (number_at ns (length values)) v) (sym e)
    (subst (λ (ps : List ℕ). Added values places (values ++ v ∷ []) numbers ps (number_at numbers (length values)) v) (sym f)
    (record { placed = given_placed values numbers places a v free different; adds = given values numbers places a v free })))
added values numbers places v place new_numbers new_places a at different (Grows.one_more is few e f) =
    let full : length values ≡ length places = omega (arith, at, is) in
    let n = length places in
    let more = numbers ++ n ∷ [] in
    let further = places ++ n ∷ [] in
    let b : ArePlacedProducts values more further = grown values numbers places a full (omega (arith, few, is)) in
    let free : length values < length further = omega (arith, full, length_push places n) in
    let g = given values more further b v free in
    let same = grown_same values numbers places a full in
    subst (λ (k : ℕ). Added values places (values ++ v ∷ []) new_numbers new_places (number_at new_numbers k) v) (sym at)
    (subst (λ (ns : List ℕ). Added values places (values ++ v ∷ []) ns new_places (number_at ns (length values)) v) (sym (e ∙ ap (λ (k : ℕ). numbers ++ k ∷ []) is))
    (subst (λ (ps : List ℕ). Added values places (values ++ v ∷ []) more ps (number_at more (length values)) v) (sym (f ∙ ap (λ (k : ℕ). places ++ k ∷ []) is))
    (record {
      placed = given_placed values more further b v free different;
      adds = record { free = sym (same (number_at more (length values))) ∙ g.free; added = g.added; others = λ k ne. g.others k ne ∙ same k };
    })))

-- ---- a number is freed

module _ (values : List Value) (numbers places : List ℕ) (n last : ℕ) (w : Value) (a : ArePlacedProducts values numbers places) (lt : n < length places) (inside : number_at places n < length values) (is_last : last + 1 ≡ length values) where
  abbrev place : ℕ
  place = number_at places n

  abbrev moved : ℕ
  moved = number_at numbers last

  abbrev left : List Value
  left = swap_remove values place w

  last_known : last < length places
  last_known = omega (arith, is_last, a.within)

  moved_known : moved < length places
  moved_known = (a.there last last_known).0

  from_moved : number_at places moved ≡ last
  from_moved = (a.there last last_known).1

  at_place : number_at numbers place ≡ n
  at_place = (a.back n lt).1

  place_known : place < length places
  place_known = (a.back n lt).0

  numbers_len : length (freed_products numbers places n last) ≡ length places
  numbers_len = length-set (set numbers place moved) last n ∙ length-set numbers place moved ∙ a.paired

  places_len : length (freed_places numbers places n last) ≡ length places
  places_len = length-set (set places moved place) n last ∙ length-set places moved place

  left_len : length left ≡ last
  left_len =
      let k : length values - 1 ≡ last = omega (arith, is_last) in
      ap (λ (j : ℕ). length (take j (set values place (get_or values j w)))) k ∙ length-take-le last (set values place (get_or values last w)) (omega (arith, is_last, length-set values place (get_or values last w)))

  pub freed_placed : IsDistinct same_value left → ArePlacedProducts left (freed_products numbers places n last) (freed_places numbers places n last)
  freed_placed different = record {
    paired = numbers_len ∙ sym places_len;
    few = omega (arith, a.few, places_len);
    within = omega (arith, left_len, last_known, places_len);
    there = subst (λ (k : ℕ). Undoes k (freed_products numbers places n last) (freed_places numbers places n last)) (sym places_len)
        (exchanged (length places) numbers places place moved last n a.paired refl place_known moved_known last_known lt at_place refl from_moved refl a.there);
    back = subst (λ (k : ℕ). Undoes k (freed_places numbers places n last) (freed_products numbers places n last)) (sym places_len)
        (exchanged (length places) places numbers moved place n last refl a.paired moved_known place_known lt last_known from_moved refl at_place refl a.back);
    different = different;
  }

  read : (q : ℕ) → q < last → slice_get left q ≡ slice_get (set values place (get_or values last w)) q
  read q low =
      let k : length values - 1 ≡ last = omega (arith, is_last) in
      ap (λ (j : ℕ). slice_get (take j (set values place (get_or values j w))) q) k ∙ get_take (set values place (get_or values last w)) last q low

  read_place : place ≢ last → slice_get left place ≡ slice_get values last
  read_place ne = read place (omega (arith, ne, inside, is_last)) ∙ get_set_same values place (get_or values last w) inside ∙ sym (slice_get-get_or values last w (omega (arith, is_last)))

  read_other : (q : ℕ) → q ≢ place → q ≢ last → slice_get left q ≡ slice_get values q
  read_other q np nl = elim (cases_lt q last) [
    | inl low ↦ read q low ∙ get_set_other values place q (get_or values last w) np
    | inr high ↦ slice_get_past left q (omega (arith, left_len, high)) ∙ sym (slice_get_past values q (omega (arith, is_last, high, nl)))
  ]

  pub freed : Removes (by_number values places) (by_number left (freed_places numbers places n last)) n
  freed = record {
    free =
        at_number left (freed_places numbers places n last) n (omega (arith, lt, places_len))
        ∙ ap (slice_get left) (get_or-set_same (set places moved place) n last 0 (omega (arith, lt, length-set places moved place))) ∙ slice_get_past left last (omega (arith, left_len));
    others = λ k ne. elim (cases_lt k (length places)) [
      | inl old ↦ at_number left (freed_places numbers places n last) k (omega (arith, old, places_len)) ∙ same k old ne ∙ sym (at_number values places k old)
      | inr past ↦ past_number left (freed_places numbers places n last) k (omega (arith, past, places_len)) ∙ sym (past_number values places k past)
    ];
  }
    where
      same : (k : ℕ) → k < length places → k ≢ n → slice_get left (number_at (freed_places numbers places n last) k) ≡ slice_get values (number_at places k)
      same k old ne = elim (cases_eq k moved) [
        | inl is ↦
            let apart : place ≢ last = λ e. ne (is ∙ sym (ap (number_at numbers) e) ∙ at_place) in
            ap (slice_get left) (get_or-set_other (set places moved place) n k last 0 ne ∙ ap (number_at (set places moved place)) is ∙ get_or-set_same places moved place 0 moved_known)
            ∙ read_place apart ∙ ap (slice_get values) (sym from_moved ∙ ap (number_at places) (sym is))
        | inr nm ↦
            let np : number_at places k ≢ place = λ e. ne (sym (a.back k old).1 ∙ ap (number_at numbers) e ∙ at_place) in
            let nl : number_at places k ≢ last = λ e. nm (sym (a.back k old).1 ∙ ap (number_at numbers) e) in
            ap (slice_get left) (get_or-set_other (set places moved place) n k last 0 ne ∙ get_or-set_other places moved k place 0 nm) ∙ read_other (number_at places k) np nl
      ]

-- ---- what the functions need

pub present : (values : List Value) (numbers places : List ℕ) (n : ℕ) → ArePlacedProducts values numbers places → IsSome (product_at (by_number values places) n) → (n < length places) × (number_at places n < length values)
present values numbers places n a h = by (product_at (by_number values places) n) refl h
  where
    by : (o : Option Value) → product_at (by_number values places) n ≡ o → IsSome o → (n < length places) × (number_at places n < length values)
    by None e s = absurd cc
    by (Some v) e s = (number_known values places n v e, inside_values values numbers places a n v e)

pub record Gone (values : List Value) (places : List ℕ) (new_values : List Value) (new_numbers new_places : List ℕ) (n : ℕ) : Type 0 where
  pub placed : ArePlacedProducts new_values new_numbers new_places
  pub removes : Removes (by_number values places) (by_number new_values new_places) n

pub gone : (values : List Value) (numbers places : List ℕ) (n at last : ℕ) → ArePlacedProducts values numbers places → (n < length places) × (number_at places n < length values) → at ≡ number_at places n → last + 1 ≡ length values
    → (new_values : List Value) (new_numbers new_places : List ℕ) → new_values ≡ swap_remove values at (get_or values at value.Any) → IsDistinct same_value new_values → new_numbers ≡ freed_products numbers places n last → new_places ≡ freed_places numbers places n last
    → Gone values places new_values new_numbers new_places n
gone values numbers places n at last a s at_is is_last new_values new_numbers new_places values_are different numbers_are places_are =
    let p = number_at places n in
    let w = get_or values p value.Any in
    let is : new_values ≡ swap_remove values p w = values_are ∙ ap (λ (k : ℕ). swap_remove values k (get_or values k value.Any)) at_is in
    subst (λ (vs : List Value). Gone values places vs new_numbers new_places n) (sym is)
    (subst (λ (ns : List ℕ). Gone values places (swap_remove values p w) ns new_places n) (sym numbers_are)
    (subst (λ (ps : List ℕ). Gone values places (swap_remove values p w) (freed_products numbers places n last) ps n) (sym places_are)
    (record {
      placed = freed_placed values numbers places n last w a s.0 s.1 is_last (subst (λ (vs : List Value). IsDistinct same_value vs) is different);
      removes = freed values numbers places n last w a s.0 s.1 is_last;
    })))

-- A product that isn't in the list is appended.
pub pushed : (values : List Value) (v : Value) (new : List Value) → list_any (same_value v) values ≡ false → new ≡ cond (list_any (same_value v) values) values (values ++ v ∷ []) → new ≡ values ++ v ∷ []
pushed values v new none h = h ∙ ap (λ (b : Bool). cond b values (values ++ v ∷ [])) none

-- The returned number was free, or is the next number.
pub few_number : (values : List Value) (numbers places : List ℕ) (place : ℕ) (new_numbers new_places : List ℕ) → ArePlacedProducts values numbers places → Grows numbers places place new_numbers new_places → number_at new_numbers place ≤ length (by_number values places)
few_number values numbers places place new_numbers new_places a (Grows.kept_room lt e f) =
    omega (arith, ap (λ (ns : List ℕ). number_at ns place) e, (a.there place lt).0, length-map places (λ p. slice_get values p))
few_number values numbers places place new_numbers new_places a (Grows.one_more is few e f) =
    omega (arith, ap (λ (ns : List ℕ). number_at ns place) e, get_or_push numbers place 0 place (a.paired ∙ sym is), is, length-map places (λ p. slice_get values p))
