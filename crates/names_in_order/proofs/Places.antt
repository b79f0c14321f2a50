-- Lemmas: the places that a search finds are the places of the covered names.
use Rattle.std.proofs.Common.{◌≡◌, ℕ, zero, suc, ◌+◌, ◌<◌, ◌≤◌, Bool, true, false, cond, ltb, List, [], ◌∷◌, ◌++◌, length, Some, None, refl, sym, ap, subst, ◌∙◌, arith, add-one, append_assoc, lt-ltb}
use Rattle.std.specs.List.{sum_by, filter, flat_map, range_with_len, position_or_len, cons_option, IsDistinct}
use Rattle.std.specs.List.Sorted.{IsSorted, IsPermutation}
use Rattle.std.specs.Ordering.{nat_cmp}
use Rattle.std.proofs.lemmas.Bool.{both_ways, false_from_ne_true, false≢true}
use Rattle.std.proofs.lemmas.List.Sums.{sum_by-cons, sum_by-le-sum_by, position_or_len_is}
use Rattle.std.proofs.lemmas.List.Sorted.{IsPermutation-refl}
use Rattle.std.proofs.lemmas.Map.Keys.{apart_from_distinct}
use Rattle.name_index.specs.cpe_name.Eleven.{Values}
use Rattle.name_index.specs.cpe_name.Equal.{same_name, same_name-Decides}
use Rattle.name_index.specs.cpe_name.Names.{any_values}
use Rattle.cpe_relation.specs.NameRelation.{covers}
use Rattle.cpe_relation.specs.Near.{near}
use Rattle.cpe_relation.proofs.NearLaws.{above_near}
use Rattle.name_index.specs.Elements.{SameElements}
use Rattle.name_index.specs.Near.{covers_product}
use Rattle.name_index.proofs.Sums.{if_passes, sum_filter}
use Rattle.name_index.specs.declared.table.NameId.{NameId}
use Rattle.name_index.specs.Table.{Names, kept_at}
use Rattle.name_index.specs.Index.{ids, name_id, is_product_covered, is_covered}
use Rattle.name_index.proofs.Postings.{sum_map, sum_flat, range_agree}
use Rattle.name_index.proofs.Covered.{covered_same, walk_length}
use Rattle.names_in_order.specs.Held.{names_held, place_list, places_of_name}
use Rattle.names_in_order.specs.Places.{name_of_place, places_covered, looked_count, near_count}
use Rattle.names_in_order.proofs.Rising.{sorted_filter}

-- ---- sums over a list, by its places

later : (g : ℕ → ℕ) (a n : ℕ) → sum_by g (range_with_len (a + 1) n) ≡ sum_by (λ k. g (k + 1)) (range_with_len a n)
later g a zero = refl
later g a (suc n) = omega (arith, sum_by-cons g (a + 1) (range_with_len (a + 1 + 1) n), sum_by-cons (λ k. g (k + 1)) a (range_with_len (a + 1) n), later g (a + 1) n)

by_places : (h : Values → ℕ) (ns : List Values) → sum_by h ns ≡ sum_by (λ k. h (name_of_place ns k)) (range_with_len 0 (length ns))
by_places h [] = refl
by_places h (n ∷ ns) =
    omega (
      arith,
      sum_by-cons h n ns,
      sum_by-cons (λ k. h (name_of_place (n ∷ ns) k)) 0 (range_with_len 1 (length ns)),
      later (λ k. h (name_of_place (n ∷ ns) k)) 0 (length ns),
      by_places h ns,
      range_agree (λ k. h (name_of_place (n ∷ ns) (k + 1))) (λ k. h (name_of_place ns k)) 0 (length ns) (λ k low high. rw add-one (refl)),
    )

-- ---- the place of each name

module _ (ns : List Values) (different : IsDistinct same_name ns) where
  place_at : (k : ℕ) → k < length ns → place_list ns (name_of_place ns k) ≡ k ∷ []
  place_at k lt =
      by (position_or_len (same_name (name_of_place ns k)) ns)
      (position_or_len_is (same_name (name_of_place ns k)) ns k any_values (omega (arith, lt)) (λ j low. before j low) (λ l. (same_name-Decides (name_of_place ns k) (name_of_place ns k)).1 refl))
    where
      before : (j : ℕ) → j < k → same_name (name_of_place ns k) (name_of_place ns j) ≡ false
      before j low =
          false_from_ne_true _ (λ e. both_ways _ (apart_from_distinct same_name ns j k any_values different low lt) ((same_name-Decides (name_of_place ns j) (name_of_place ns k)).1 (sym ((same_name-Decides (name_of_place ns k) (name_of_place ns j)).0 e))))

      by : (m : ℕ) → m ≡ k → cons_option (cond (ltb m (length ns)) (Some m) None) [] ≡ k ∷ []
      by m e = ap (λ (i : ℕ). cons_option (cond (ltb i (length ns)) (Some i) None) []) e ∙ ap (λ (b : Bool). cons_option (cond b (Some k) None) []) (lt-ltb k (length ns) lt)

  -- A sum over the places of the covered names equals a sum over the names.
  covered_sum : (name : Values) (g : ℕ → ℕ) → sum_by (λ n. cond (covers name n) (sum_by g (place_list ns n)) 0) ns ≡ sum_by g (places_covered name ns)
  covered_sum name g =
      by_places (λ n. cond (covers name n) (sum_by g (place_list ns n)) 0) ns
      ∙ range_agree (λ k. cond (covers name (name_of_place ns k)) (sum_by g (place_list ns (name_of_place ns k))) 0) (if_passes (λ k. covers name (name_of_place ns k)) g) 0 (length ns) (λ k low high. ap {B = ℕ} (λ (m : ℕ). cond (covers name (name_of_place ns k)) m 0) (ap (sum_by g) (place_at k (omega (arith, high))) ∙ one k))
      ∙ sym (sum_filter g (λ k. covers name (name_of_place ns k)) (range_with_len 0 (length ns)))
    where
      one : (k : ℕ) → sum_by g (k ∷ []) ≡ g k
      one k = omega (arith, sum_by-cons g k [])

-- ---- the places that a walk finds

-- After a step of a walk, the found places and the places still to be found are all places.
pub places_more : (place : NameId → List ℕ) (q : NameId → Bool) (found new all : List ℕ) (rest xs : List NameId) (x : NameId) (b : Bool)
    → xs ≡ x ∷ rest → q x ≡ b → new ≡ cond b (found ++ place x) found → found ++ flat_map place (filter q xs) ≡ all → new ++ flat_map place (filter q rest) ≡ all
places_more place q found new all rest xs x b e t is h =
    let k : found ++ flat_map place (filter q (x ∷ rest)) ≡ all = subst (λ (zs : List NameId). found ++ flat_map place (filter q zs) ≡ all) e h in
    ap (λ (ys : List ℕ). ys ++ flat_map place (filter q rest)) is ∙ go b (subst (λ (c : Bool). found ++ flat_map place (cond c (x ∷ filter q rest) (filter q rest)) ≡ all) t k)
  where
    go : (c : Bool) → found ++ flat_map place (cond c (x ∷ filter q rest) (filter q rest)) ≡ all → cond c (found ++ place x) found ++ flat_map place (filter q rest) ≡ all
    go true k = append_assoc found (place x) (flat_map place (filter q rest)) ∙ k
    go false k = k

module _ (ns : List Values) (names : Names) (held : List (ℕ × ℕ)) (name : Values) (walk : List NameId) (different : IsDistinct same_name ns) (same : SameElements ns (names_held names held))
    (passing_ones : SameElements (filter (is_product_covered names name.product) (ids held)) walk) where
  pub found_places : ((x : NameId) → is_covered names name x ≡ true → is_product_covered names name.product x ≡ true) → SameElements (places_covered name ns) (flat_map (places_of_name ns names) (filter (is_covered names name) walk))
  found_places imp g =
      let q = is_covered names name in
      let h : NameId → ℕ = λ id. sum_by g (places_of_name ns names id) in
      let w : Values → ℕ = λ n. cond (covers name n) (sum_by g (place_list ns n)) 0 in
      sym (sum_flat g (places_of_name ns names) (filter q walk)
      ∙ sym (covered_same (is_product_covered names name.product) q (ids held) walk (filter q walk) imp passing_ones (IsPermutation-refl (filter q walk)) h)
      ∙ sum_filter h q (ids held)
      ∙ sum_map (if_passes q h) (λ (x : ℕ × ℕ). name_id x.0) held
      ∙ sym (sum_map w (λ (x : ℕ × ℕ). (kept_at names x.0).name) held)
      ∙ sym (same w)
      ∙ covered_sum ns different name g)

  -- The walk visits as many numbers as there are names with a covered product.
  pub walked : length walk ≡ looked_count name ns
  walked =
      walk_length (is_product_covered names name.product) (ids held) walk passing_ones
      ∙ sum_map (λ (id : NameId). cond (is_product_covered names name.product id) 1 0) (λ (x : ℕ × ℕ). name_id x.0) held
      ∙ sym (sum_map (λ (n : Values). cond (covers_product name.product n.product) 1 0) (λ (x : ℕ × ℕ). (kept_at names x.0).name) held)
      ∙ sym (same (λ (n : Values). cond (covers_product name.product n.product) 1 0))

-- A search looks at no more names than are near: a product is near each product that it covers.
pub fewer_looked : (name : Values) (ns : List Values) → looked_count name ns ≤ near_count name ns
fewer_looked name ns =
    sum_by-le-sum_by (λ (n : Values). cond (covers_product name.product n.product) 1 0) (λ (n : Values). cond (near name.product n.product) 1 0) ns
    (λ n. by (covers_product name.product n.product) (near name.product n.product) 1 (above_near name.product n.product))
  where
    by : (a b : Bool) (n : ℕ) → (a ≡ true → b ≡ true) → cond a n 0 ≤ cond b n 0
    by true true n h = omega arith
    by true false n h = absurd (false≢true (h refl))
    by false b n h = omega arith

-- ---- the sorted places

pub sorted_places : (name : Values) (ns : List Values) (found sorted : List ℕ) → SameElements (places_covered name ns) found → IsPermutation found sorted → IsSorted nat_cmp sorted → sorted ≡ places_covered name ns
sorted_places name ns = sorted_filter (λ k. covers name (name_of_place ns k)) (length ns)
