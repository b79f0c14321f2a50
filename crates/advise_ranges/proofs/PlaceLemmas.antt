-- The places of the advisories of a group in the list of all advisories.
use Rattle.std.proofs.Common.{◌≡◌, ℕ, suc, ◌+◌, ◌<◌, Bool, true, false, cond, ◌&&◌, ◌||◌, ltb, List, [], ◌∷◌, ◌++◌, length, map, filter, get_or, Option, Some, None, slice_get, refl, sym, ap, ◌∙◌, arith, lt-ltb}
use Rattle.std.specs.Prelude.{option_map, option_to_list}
use Rattle.std.specs.Option.{option_map_or}
use Rattle.std.specs.List.{sum_by, flat_map, range_with_len, position_or_len, cons_option, IsDistinct}
use Rattle.std.specs.Map.{keys_of}
use Rattle.std.specs.Str.{bytes_eq}
use Rattle.std.proofs.lemmas.List.Sums.{sum_by-cons, sum_by-append, position_or_len_is}
use Rattle.std.proofs.lemmas.Map.Keys.{apart_from_distinct}
use Rattle.std.proofs.lemmas.Option.{slice_get-map, slice_get_within, get_or_from_slice_get}
use Rattle.std.proofs.lemmas.Slice.Eq.{bytes_eq-Decides}
use Rattle.cpe_rows.specs.cpe_values.declared.value.Value.{Value}
use Rattle.cpe_rows.specs.cpe_values.declared.value.Value.TheVariants as value
use Rattle.cpe_rows.specs.cpe_values.Equal.{same_value-Decides}
use Rattle.cpe_rows.specs.cpe_values.Same.{same_value}
use Rattle.cpe_rows.specs.cpe_name.Eleven.{Values}
use Rattle.advise_ranges.specs.declared.advisory.Advisory.{Advisory}
use Rattle.names_in_order.specs.Places.{rows_at}
use Rattle.names_in_order.proofs.Rows.{rows_from}
use Rattle.name_index.specs.Elements.{SameElements}
use Rattle.name_index.proofs.Sums.{if_passes, sum_filter}
use Rattle.advise_ranges.specs.Answers.{ids_affecting}
use Rattle.advise_ranges.specs.Found.{affecting_there, is_beside, own_group, passes_at, advice_place_in, places_where}
use Rattle.advise_ranges.specs.Groups.{AreAdvisoriesGrouped, Grouped, group, group_of, ids_in_group, is_in_group, is_plain}
use Rattle.advise_ranges.specs.Kept.{advisory_from, advisories_in}
use Rattle.advise_ranges.specs.declared.advised.Terms.{Terms}
use Rattle.advise_ranges.proofs.KeptLemmas.{Pairs, ids-cons}

-- ---- the place of each id

bytes_turn : (a b : List ℕ) → bytes_eq a b ≡ false → bytes_eq b a ≡ false
bytes_turn a b h = go (bytes_eq b a) refl
  where
    go : (q : Bool) → bytes_eq b a ≡ q → q ≡ false
    go true e = sym (sym h ∙ (bytes_eq-Decides a b).1 (sym ((bytes_eq-Decides b a).0 e)))
    go false e = refl

module _ (es : Pairs) (different : IsDistinct bytes_eq (keys_of es)) where
  abbrev all : List (List ℕ)
  all = keys_of es

  place_at : (k : ℕ) → k < length all → advice_place_in all (get_or all k []) ≡ k ∷ []
  place_at k lt =
      by (position_or_len (bytes_eq (get_or all k [])) all)
      (position_or_len_is (bytes_eq (get_or all k [])) all k [] (omega (arith, lt)) (λ j low. bytes_turn (get_or all j []) (get_or all k []) (apart_from_distinct bytes_eq all j k [] different low lt)) (λ l. (bytes_eq-Decides (get_or all k []) (get_or all k [])).1 refl))
    where
      by : (m : ℕ) → m ≡ k → cons_option (cond (ltb m (length all)) (Some m) None) [] ≡ k ∷ []
      by m e = ap (λ (i : ℕ). cons_option (cond (ltb i (length all)) (Some i) None) []) e ∙ ap (λ (b : Bool). cons_option (cond b (Some k) None) []) (lt-ltb k (length all) lt)

  place_of_entry : (k : ℕ) (e : List ℕ × Terms) → slice_get es k ≡ Some e → advice_place_in all e.0 ≡ k ∷ []
  place_of_entry k e there =
      let at : slice_get all k ≡ Some e.0 = slice_get-map (λ (x : List ℕ × Terms). x.0) es k ∙ ap (option_map (λ (x : List ℕ × Terms). x.0)) there in
      ap (advice_place_in all) (sym (get_or_from_slice_get all k e.0 [] at)) ∙ place_at k (slice_get_within all k e.0 at)

  -- the places of the advisories of a group
  module _ (v : Value) where
    abbrev in_group : ℕ → Bool
    in_group = passes_at (is_in_group v) es

    group_from : (rest : Pairs) (a : ℕ) → ((k : ℕ) → slice_get es (a + k) ≡ slice_get rest k)
        → flat_map (advice_place_in all) (ids_in_group v (advisories_in rest)) ≡ filter in_group (range_with_len a (length rest))
    group_from [] a agree = refl
    group_from (e ∷ rest) a agree =
        go (is_in_group v (advisory_from e)) (group_from rest (a + 1) (λ k. ap (slice_get es) (shifted k) ∙ agree (suc k)))
        ∙ ap (λ (b : Bool). cond b (a ∷ more) more) (sym (ap (λ (o : Option (List ℕ × Terms)). option_map_or (λ x. is_in_group v (advisory_from x)) o false) here))
      where
        more : List ℕ
        more = filter in_group (range_with_len (a + 1) (length rest))

        here : slice_get es a ≡ Some e
        here = ap (slice_get es) (omega arith) ∙ agree 0

        shifted : (k : ℕ) → a + 1 + k ≡ a + suc k
        shifted k = omega arith

        go : (b : Bool) → flat_map (advice_place_in all) (ids_in_group v (advisories_in rest)) ≡ more
            → flat_map (advice_place_in all) (map (λ (x : Advisory). x.id) (cond b (advisory_from e ∷ filter (is_in_group v) (advisories_in rest)) (filter (is_in_group v) (advisories_in rest)))) ≡ cond b (a ∷ more) more
        go true h = ap (λ (ks : List ℕ). ks ++ flat_map (advice_place_in all) (ids_in_group v (advisories_in rest))) (place_of_entry a e here) ∙ ap (λ (ks : List ℕ). a ∷ ks) h
        go false h = h

    pub group_places : flat_map (advice_place_in all) (ids_in_group v (advisories_in es)) ≡ places_where (is_in_group v) es
    group_places = group_from es 0 (λ k. ap (slice_get es) (omega arith))

-- ---- the places of two groups

-- if no number passes both tests
module _ (p q : ℕ → Bool) (apart : (k : ℕ) → p k ≡ true → q k ≡ false) where
  weigh : (f : ℕ → ℕ) (k : ℕ) (b : Bool) → p k ≡ b → cond (b || q k) (f k) 0 ≡ cond b (f k) 0 + cond (q k) (f k) 0
  weigh f k true e = omega (arith, ap (λ (c : Bool). cond c (f k) 0) (apart k e))
  weigh f k false e = omega arith

  both : (f : ℕ → ℕ) (ks : List ℕ) → sum_by (if_passes (λ k. p k || q k) f) ks ≡ sum_by (if_passes p f) ks + sum_by (if_passes q f) ks
  both f [] = refl
  both f (k ∷ ks) =
      omega (
        arith,
        sum_by-cons (if_passes (λ k. p k || q k) f) k ks,
        sum_by-cons (if_passes p f) k ks,
        sum_by-cons (if_passes q f) k ks,
        both f ks,
        weigh f k (p k) refl,
      )

  either : (ks : List ℕ) → SameElements (filter (λ k. p k || q k) ks) (filter p ks ++ filter q ks)
  either ks f =
      omega (
        arith,
        sum_filter f (λ k. p k || q k) ks,
        sum_filter f p ks,
        sum_filter f q ks,
        both f ks,
        sum_by-append f (filter p ks) (filter q ks),
      )

-- ---- the places of all advisories that a question tests

none_pass : (ks : List ℕ) → filter (λ k. false) ks ≡ []
none_pass [] = refl
none_pass (k ∷ ks) = none_pass ks

module _ (product : Value) (es : Pairs) where
  abbrev is_own : Advisory → Bool
  is_own a = is_plain product && is_in_group product a

  own_places : (b : Bool) → filter (λ k. b && passes_at (is_in_group product) es k) (range_with_len 0 (length es)) ≡ cond b (places_where (is_in_group product) es) []
  own_places true = refl
  own_places false = none_pass (range_with_len 0 (length es))

  own_at : (k : ℕ) → passes_at is_own es k ≡ (is_plain product && passes_at (is_in_group product) es k)
  own_at k = by (slice_get es k) (is_plain product)
    where
      by : (o : Option (List ℕ × Terms)) (b : Bool) → option_map_or (λ e. b && is_in_group product (advisory_from e)) o false ≡ (b && option_map_or (λ e. is_in_group product (advisory_from e)) o false)
      by (Some e) b = refl
      by None true = refl
      by None false = refl

  beside_at : (k : ℕ) → passes_at (is_beside product) es k ≡ (passes_at (is_in_group value.Any) es k || (is_plain product && passes_at (is_in_group product) es k))
  beside_at k = by (slice_get es k) (is_plain product)
    where
      by : (o : Option (List ℕ × Terms)) (b : Bool) → option_map_or (λ e. is_in_group value.Any (advisory_from e) || (b && is_in_group product (advisory_from e))) o false
          ≡ (option_map_or (λ e. is_in_group value.Any (advisory_from e)) o false || (b && option_map_or (λ e. is_in_group product (advisory_from e)) o false))
      by (Some e) b = refl
      by None true = refl
      by None false = refl

  -- the group of a plain product isn't the group of ANY
  not_any : (v : Value) → same_value v value.Any ≡ true → (p : Value) → (is_plain p && same_value v p) ≡ false
  not_any v e value.Any = refl
  not_any v e value.Na = refl
  not_any v e (value.Text t) =
      ap (λ (w : Value). is_plain (value.Text t) && same_value w (value.Text t)) ((same_value-Decides v value.Any).0 e) ∙ never (is_plain (value.Text t))
    where
      never : (b : Bool) → (b && false) ≡ false
      never true = refl
      never false = refl

  groups_apart : (k : ℕ) → passes_at (is_in_group value.Any) es k ≡ true → (is_plain product && passes_at (is_in_group product) es k) ≡ false
  groups_apart k e = by (slice_get es k) e
    where
      never : (b : Bool) → (b && false) ≡ false
      never true = refl
      never false = refl

      by : (o : Option (List ℕ × Terms)) → option_map_or (λ x. is_in_group value.Any (advisory_from x)) o false ≡ true → (is_plain product && option_map_or (λ x. is_in_group product (advisory_from x)) o false) ≡ false
      by (Some x) h = not_any (group_of x.1.name.product) h product
      by None h = never (is_plain product)

  module _ (gs : Grouped) (grouped : AreAdvisoriesGrouped (advisories_in es) gs) (different : IsDistinct bytes_eq (keys_of es)) where
    of_group : (v : Value) → flat_map (advice_place_in (keys_of es)) (group gs v) ≡ places_where (is_in_group v) es
    of_group v = ap (flat_map (advice_place_in (keys_of es))) (grouped v) ∙ group_places es different v

    own : (b : Bool) → flat_map (advice_place_in (keys_of es)) (cond b (group gs product) []) ≡ cond b (places_where (is_in_group product) es) []
    own true = of_group product
    own false = refl

    -- the places from both groups are the places of all advisories that are to be tested for the product
    pub found_beside : SameElements (places_where (is_beside product) es) (flat_map (advice_place_in (keys_of es)) (group gs value.Any) ++ flat_map (advice_place_in (keys_of es)) (own_group gs product))
    found_beside f =
        let numbers = range_with_len 0 (length es) in
        ap (λ (p : ℕ → Bool). sum_by f (filter p numbers)) (λ i k. beside_at k i)
        ∙ either (passes_at (is_in_group value.Any) es) (λ k. is_plain product && passes_at (is_in_group product) es k) groups_apart numbers f
        ∙ ap (λ (ks : List ℕ). sum_by f (places_where (is_in_group value.Any) es ++ ks)) (own_places (is_plain product) ∙ sym (own (is_plain product)))
        ∙ ap (λ (ks : List ℕ). sum_by f (ks ++ flat_map (advice_place_in (keys_of es)) (own_group gs product))) (sym (of_group value.Any))

-- ---- advisories at places, one after another

module _ (n : Values) (es : Pairs) where
  affecting_at : (places : List ℕ) → flat_map (affecting_there n es) places ≡ ids_affecting n (advisories_in (rows_at es places))
  affecting_at [] = refl
  affecting_at (k ∷ ks) = go (slice_get es k) (affecting_at ks)
    where
      go : (o : Option (List ℕ × Terms)) → flat_map (affecting_there n es) ks ≡ ids_affecting n (advisories_in (rows_at es ks))
          → ids_affecting n (advisories_in (option_to_list o)) ++ flat_map (affecting_there n es) ks ≡ ids_affecting n (advisories_in (cons_option o (rows_at es ks)))
      go (Some e) h =
          ap (λ (r : List (List ℕ)). ids_affecting n (advisory_from e ∷ []) ++ r) h
          ∙ sym (ids-cons n (advisory_from e) (advisories_in (rows_at es ks)))
      go None h = h

  -- the advisories at the places that pass are the advisories that pass
  pub affecting_where : (p : Advisory → Bool) → flat_map (affecting_there n es) (places_where p es) ≡ ids_affecting n (advisories_in (filter (λ e. p (advisory_from e)) es))
  affecting_where p =
      affecting_at (places_where p es)
      ∙ ap (λ (xs : Pairs). ids_affecting n (advisories_in xs))
      (rows_from (passes_at p es) (λ e. p (advisory_from e)) es es 0 (λ k e at. ap (λ (o : Option (List ℕ × Terms)). option_map_or (λ x. p (advisory_from x)) o false) at) (λ k. ap (slice_get es) (omega arith)))
