-- Lemmas: a walk visits the held numbers whose products pass a test. It reads the lists of these products.
use Rattle.std.proofs.Common.{◌≡◌, ℕ, zero, suc, ◌+◌, ◌<◌, ◌≤◌, Bool, true, false, cond, ltb, List, [], ◌∷◌, ◌++◌, map, length, Option, Some, None, refl, sym, ap, subst, ◌∙◌, inl, inr, arith}
use Rattle.std.specs.Prelude.{is_some}
use Rattle.std.specs.List.{sum_by, flat_map, range_with_len, filter, AllByRecursion}
use Rattle.std.proofs.lemmas.Bool.{cases_Bool, ltb-true}
use Rattle.std.proofs.lemmas.Option.{slice_get_past}
use Rattle.std.proofs.lemmas.List.Elements.{recursion_from_All, All-weaker}
use Rattle.std.proofs.lemmas.List.Sums.{sum_by-cons}
use Rattle.cpe_values.specs.declared.value.Value.{Value}
use Rattle.list_pool.specs.Pool.{Row as CellRow}
use Rattle.list_pool.specs.declared.ListName.{ListName}
use Rattle.name_index.specs.Listed.{product_at, value_or, product_value_at, numbers_to, live}
use Rattle.name_index.proofs.Live.{none_past}
use Rattle.name_index.proofs.Sums.{if_passes, sum_filter, sum_agree}
use Rattle.name_index.specs.declared.table.NameId.{NameId}
use Rattle.name_index.specs.Table.{Names, Kept, kept_or, kept_at, find_kept}
use Rattle.name_index.specs.Index.{ids, name_id, FitsTable, posting_of, posting, pairs, walk_left, WalksProducts}
use Rattle.name_index.proofs.Postings.{sum_map, sum_flat, range_agree, range_none, weighs, pairs_sum}
use Rattle.name_index.proofs.TableChanges.{at_least}
use Rattle.name_index.proofs.WalkSteps.{none_left}

pub agree_all : {X : Type 0} (f g : X → ℕ) (xs : List X) → AllByRecursion (λ x. f x ≡ g x) xs → sum_by f xs ≡ sum_by g xs
agree_all f g [] h = refl
agree_all f g (x ∷ xs) h = omega (arith, sum_by-cons f x xs, sum_by-cons g x xs, h.0, agree_all f g xs h.1)

pub none_all : {X : Type 0} (f : X → ℕ) (xs : List X) → AllByRecursion (λ x. f x ≡ 0) xs → sum_by f xs ≡ 0
none_all f [] h = refl
none_all f (x ∷ xs) h = omega (arith, sum_by-cons f x xs, h.0, none_all f xs h.1)

cond_sum : (b : Bool) (g : ℕ → ℕ) (vs : List ℕ) → sum_by (λ v. cond b (g v) 0) vs ≡ cond b (sum_by g vs) 0
cond_sum true g vs = refl
cond_sum false g [] = refl
cond_sum false g (v ∷ vs) = omega (arith, sum_by-cons (λ (w : ℕ). 0) v vs, cond_sum false g vs)

range_ge : (g : ℕ → ℕ) (a n p : ℕ) → a ≤ p → p < a + n → g p ≤ sum_by g (range_with_len a n)
range_ge g a zero p low high = absurd (omega (arith, low, high))
range_ge g a (suc n) p low high = elim (cases_Bool (ltb a p)) [
  | inl t ↦ omega (arith, sum_by-cons g a (range_with_len (a + 1) n), range_ge g (a + 1) n p (omega (arith, ltb-true a p t)) (omega (arith, high)))
  | inr t ↦ let is : p ≡ a = omega (arith, at_least a p t, low) in omega (arith, sum_by-cons g a (range_with_len (a + 1) n), ap g is)
]

range_tail : (g : ℕ → ℕ) (a n k : ℕ) → ((p : ℕ) → a + n ≤ p → g p ≡ 0) → sum_by g (range_with_len a (n + k)) ≡ sum_by g (range_with_len a n)
range_tail g a n k none = by a n (n + k) refl none
  where
    by : (a n m : ℕ) → m ≡ n + k → ((p : ℕ) → a + n ≤ p → g p ≡ 0) → sum_by g (range_with_len a m) ≡ sum_by g (range_with_len a n)
    by a zero m e none = range_none g a m (λ p low high. none p (omega (arith, low)))
    by a (suc n) m e none =
        let step : suc (n + k) ≡ m = omega (arith, e) in
        subst (λ (j : ℕ). sum_by g (range_with_len a j) ≡ sum_by g (range_with_len a (suc n))) step
        (omega (arith, sum_by-cons g a (range_with_len (a + 1) (n + k)), sum_by-cons g a (range_with_len (a + 1) n), by (a + 1) n (n + k) refl (λ p low. none p (omega (arith, low)))))

range_same : (g : ℕ → ℕ) (m n : ℕ) → ((p : ℕ) → m ≤ p → g p ≡ 0) → ((p : ℕ) → n ≤ p → g p ≡ 0) → sum_by g (numbers_to m) ≡ sum_by g (numbers_to n)
range_same g m n f h =
    let swap_ : m + n ≡ n + m = omega arith in
    sym (range_tail g 0 m n (λ p low. f p (omega (arith, low)))) ∙ ap (λ (k : ℕ). sum_by g (numbers_to k)) swap_ ∙ range_tail g 0 n m (λ p low. h p (omega (arith, low)))

module _ (names : Names) (test : Value → Bool) (lists : List (Option (List CellRow))) (heads : List ListName) (walk : List ℕ) (fits : FitsTable (pairs lists heads) names) (w : WalksProducts names test walk) where
  abbrev has_passing : NameId → Bool
  has_passing id = test (kept_at names id.0).name.product

  abbrev passes : ℕ → Bool
  passes p = test (product_value_at w.products p)

  product_of : (x : ℕ × ℕ) (k : Kept) → find_kept names x.0 ≡ Some k → k.product ≡ x.1 → product_at w.products x.1 ≡ Some (kept_at names x.0).name.product
  product_of x k e is = ap (product_at w.products) (sym is) ∙ w.of x.0 k e ∙ ap {B = Option Value} (λ (o : Option Kept). Some (kept_or o).name.product) (sym e)

  passes_is : (x : ℕ × ℕ) (k : Kept) → find_kept names x.0 ≡ Some k → k.product ≡ x.1 → has_passing (name_id x.0) ≡ passes x.1
  passes_is x k e is = ap test (sym (ap value_or (product_of x k e is)))

  abbrev beyond_ : ℕ × ℕ → ℕ
  beyond_ x = cond (is_some (product_at w.products x.1)) 0 1

  none_beyond : sum_by beyond_ (pairs lists heads) ≡ 0
  none_beyond = none_all beyond_ (pairs lists heads) (recursion_from_All (λ (x : ℕ × ℕ). beyond_ x ≡ 0) (pairs lists heads) (All-weaker (λ (x : ℕ × ℕ). (k : Kept) × (find_kept names x.0 ≡ Some k) × (k.product ≡ x.1)) (λ (x : ℕ × ℕ). beyond_ x ≡ 0) (λ x h.
      ap {B = ℕ} (λ (o : Option Value). cond (is_some o) 0 1) (product_of x h.0 h.1 h.2)) (pairs lists heads) fits))

  abbrev all_of : (NameId → ℕ) → ℕ → ℕ
  all_of f p = sum_by (λ v. f (name_id v)) (posting lists heads p)

  ones : (vs : List ℕ) (g : ℕ → ℕ) → sum_by (λ (v : ℕ). 1) vs ≡ 0 → sum_by g vs ≡ 0
  ones [] g h = refl
  ones (v ∷ vs) g h = absurd (omega (arith, h, sum_by-cons (λ (u : ℕ). 1) v vs))

  past_lists : (f : NameId → ℕ) (p : ℕ) → length heads ≤ p → all_of f p ≡ 0
  past_lists f p le = ap (λ (o : Option ListName). sum_by (λ v. f (name_id v)) (posting_of lists o)) (slice_get_past heads p le)

  -- No number is held with a product number that has no product.
  free_products : (f : NameId → ℕ) (p : ℕ) → product_at w.products p ≡ None → all_of f p ≡ 0
  free_products f p free = elim (cases_Bool (ltb p (length heads))) [
    | inl t ↦
        let none : weighs lists heads beyond_ p ≡ 0 = omega (arith, none_beyond, pairs_sum lists heads beyond_, range_ge (weighs lists heads beyond_) 0 (length heads) p (omega arith) (omega (arith, ltb-true p (length heads) t))) in
        let one : ◌≡◌ {A = ℕ} (cond (is_some (product_at w.products p)) 0 1) 1 = ap {B = ℕ} (λ (o : Option Value). cond (is_some o) 0 1) free in
        ones (posting lists heads p) (λ v. f (name_id v)) (sym (ap (λ (n : ℕ). sum_by (λ (v : ℕ). n) (posting lists heads p)) one) ∙ none)
    | inr t ↦ past_lists f p (at_least p (length heads) t)
  ]

  no_more : (b : Bool) (n : ℕ) → n ≡ 0 → cond b n 0 ≡ 0
  no_more true n h = h
  no_more false n h = refl

  listed : (f : NameId → ℕ) (p : ℕ) → cond (is_some (product_at w.products p)) (cond (passes p) (all_of f p) 0) 0 ≡ cond (passes p) (all_of f p) 0
  listed f p = by (product_at w.products p) refl
    where
      by : (o : Option Value) → product_at w.products p ≡ o → cond (is_some o) (cond (passes p) (all_of f p) 0) 0 ≡ cond (passes p) (all_of f p) 0
      by None e = sym (no_more (passes p) (all_of f p) (free_products f p e))
      by (Some v) e = refl

  pub passing_sum : (f : NameId → ℕ) → sum_by f (filter has_passing (ids (pairs lists heads))) ≡ sum_by f (walk_left lists heads 0 0 walk)
  passing_sum f =
      let g = λ (v : ℕ). f (name_id v) in
      let by_pair = λ (x : ℕ × ℕ). cond (passes x.1) (f (name_id x.0)) 0 in
      let each = λ (p : ℕ). cond (passes p) (all_of f p) 0 in
      let left : sum_by f (filter has_passing (ids (pairs lists heads))) ≡ sum_by each (numbers_to (length heads)) =
      sum_filter f has_passing (ids (pairs lists heads))
      ∙ sum_map (if_passes has_passing f) (λ (x : ℕ × ℕ). name_id x.0) (pairs lists heads)
      ∙ agree_all (λ (x : ℕ × ℕ). if_passes has_passing f (name_id x.0)) by_pair (pairs lists heads) (recursion_from_All (λ (x : ℕ × ℕ). if_passes has_passing f (name_id x.0) ≡ by_pair x) (pairs lists heads)
      (All-weaker (λ (x : ℕ × ℕ). (k : Kept) × (find_kept names x.0 ≡ Some k) × (k.product ≡ x.1)) (λ (x : ℕ × ℕ). if_passes has_passing f (name_id x.0) ≡ by_pair x) (λ x h. ap {B = ℕ} (λ (b : Bool). cond b (f (name_id x.0)) 0) (passes_is x h.0 h.1 h.2)) (pairs lists heads) fits))
      ∙ pairs_sum lists heads by_pair
      ∙ range_agree (weighs lists heads by_pair) each 0 (length heads) (λ p low high. cond_sum (passes p) g (posting lists heads p)) in
      let right : sum_by f (walk_left lists heads 0 0 walk) ≡ sum_by each (numbers_to (length w.products)) =
      ap (λ (xs : List ℕ). sum_by f (map name_id (xs ++ flat_map (posting lists heads) walk))) (none_left lists 0)
      ∙ sum_map f name_id (flat_map (posting lists heads) walk) ∙ sum_flat g (posting lists heads) walk
      ∙ sym (w.walks (all_of f)) ∙ sum_filter (all_of f) passes (live w.products)
      ∙ sum_filter each (λ n. is_some (product_at w.products n)) (numbers_to (length w.products)) ∙ sum_agree (if_passes (λ n. is_some (product_at w.products n)) each) each (listed f) (numbers_to (length w.products)) in
      left ∙ range_same each (length heads) (length w.products) (λ p le. no_more (passes p) (all_of f p) (past_lists f p le)) (λ p le. no_more (passes p) (all_of f p) (free_products f p (none_past w.products p le))) ∙ sym right
