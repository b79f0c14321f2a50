-- Lemmas: numbers in the order of their products, and which are before a run or in it.
use Rattle.std.proofs.Common.{◌≡◌, ◌⊎◌, ℕ, Bool, true, false, not, ◌||◌, ◌&&◌, cond, List, [], ◌∷◌, ◌++◌, reverse, refl, sym, ap, subst, ◌∙◌, inl, inr, is_lt, Ordering, Less, Equal, Greater, true≢false}
use Rattle.std.specs.Cmp.{both_ways as agree}
use Rattle.std.specs.Prelude.{nat_eq}
use Rattle.std.specs.List.{AllByRecursion, filter, starts_with}
use Rattle.std.specs.List.Sorted.{IsPermutation}
use Rattle.std.specs.Ordering.{ordering_reverse}
use Rattle.std.proofs.lemmas.Bool.{cases_Bool, both_ways}
use Rattle.std.proofs.lemmas.List.{reverse-reverse}
use Rattle.std.proofs.lemmas.Cmp.{nat_list_cmp_total}
use Rattle.std.proofs.lemmas.Map.Lookups.{exact_bytes}
use Rattle.std.proofs.lemmas.Slice.Eq.{slice_eq-Decides}
use Rattle.std.proofs.lemmas.List.Sorted.{IsPermutation-middle, IsPermutation-sym}
use lib.Pointwise.{pointwise}
use Rattle.name_index.specs.Blocks.{AllAre, IsParted, IsPut}
use Rattle.cpe_values.specs.declared.value.Value.{Value}
use Rattle.name_index.specs.declared.keys.End.{End}
use Rattle.name_index.specs.declared.keys.End.TheVariants as end
use Rattle.name_index.specs.declared.keys.Shape.{Shape}
use Rattle.name_index.specs.Keys.{shape_of, shape_rank, body_of, turned_body, text_order, product_key, in_run, is_below, NotAbove, Rises}
use Rattle.name_index.specs.Listed.{product_value_at, ProductList}
use Rattle.name_index.proofs.Texts.{text_itself, below_or_starts, not_below, touches_key, nat_Decides}
use Rattle.name_index.proofs.Runs.{parted, put_ordered}

pub lt_is : (r : Ordering) → is_lt r ≡ true → r ≡ Less
lt_is Less h = refl
lt_is Equal h = absurd (true≢false (sym h))
lt_is Greater h = absurd (true≢false (sym h))

or_second : (a b : Bool) → (a || b) ≡ true → a ≡ false → b ≡ true
or_second true b h f = absurd (true≢false f)
or_second false b h f = h

or_first : (a b : Bool) → a ≡ true → (a || b) ≡ true
or_first true b h = refl
or_first false b h = absurd (true≢false (sym h))

or_last : (a b : Bool) → b ≡ true → (a || b) ≡ true
or_last true b h = refl
or_last false b h = h

-- ---- keys: the rank of the shape, and then the body

abbrev meets : Bool → List ℕ → List ℕ → Bool
meets whole k x = cond whole (pointwise nat_eq k x) (starts_with nat_eq x k)

pub same_text : (a b : List ℕ) → pointwise nat_eq a b ≡ true → a ≡ b
same_text a b h = (slice_eq-Decides nat_Decides a b (pointwise nat_eq a b) refl).0 h

pub text_same : (a b : List ℕ) → a ≡ b → pointwise nat_eq a b ≡ true
text_same a b e = (slice_eq-Decides nat_Decides a b (pointwise nat_eq a b) refl).1 e

pointwise_turned : (e : End) (a b : List ℕ) → pointwise nat_eq a b ≡ pointwise nat_eq (turned_body e a) (turned_body e b)
pointwise_turned end.Front a b = refl
pointwise_turned end.Back a b = agree (pointwise nat_eq a b) (pointwise nat_eq (reverse a) (reverse b))
    (λ h. text_same (reverse a) (reverse b) (ap reverse (same_text a b h)))
    (λ h. text_same a b (sym (reverse-reverse a) ∙ ap reverse (same_text (reverse a) (reverse b) h) ∙ reverse-reverse b))

-- A product is in a run if its key equals the run's key, or begins with it.
pub in_key : (e : End) (s : Shape) (body : List ℕ) (whole : Bool) (v : Value) → in_run e s body whole v ≡ meets whole (shape_rank s ∷ turned_body e body) (product_key e v)
in_key e s body true v = ap (λ (b : Bool). nat_eq (shape_rank s) (shape_rank (shape_of v)) && b) (pointwise_turned e body (body_of v))
in_key e s body false v = ap (λ (b : Bool). nat_eq (shape_rank s) (shape_rank (shape_of v)) && b) (touches_key e body (body_of v))

-- A text that isn't greater than another is less, or equal.
not_above : (x y : List ℕ) → is_lt (text_order y x) ≡ false → (text_order x y ≡ Less) ⊎ (x ≡ y)
not_above x y h = by (text_order x y) refl where
  by : (r : Ordering) → text_order x y ≡ r → (text_order x y ≡ Less) ⊎ (x ≡ y)
  by Less is = inl is
  by Equal is = inr (exact_bytes x y is)
  by Greater is = absurd (both_ways _ h (ap is_lt (nat_list_cmp_total.antisymm y x ∙ ap ordering_reverse is)))

below_down : (k x y : List ℕ) → is_lt (text_order y x) ≡ false → is_lt (text_order y k) ≡ true → is_lt (text_order x k) ≡ true
below_down k x y le h = elim (not_above x y le) [
  | inl l ↦ ap is_lt (nat_list_cmp_total.trans x y k l (lt_is _ h))
  | inr same ↦ ap (λ (z : List ℕ). is_lt (text_order z k)) same ∙ h
]

meets_down : (whole : Bool) (k x y : List ℕ) → text_order x y ≡ Less → meets whole k y ≡ true → (is_lt (text_order x k) || meets whole k x) ≡ true
meets_down true k x y l h = or_first _ _ (ap is_lt (ap (text_order x) (same_text k y h) ∙ l))
meets_down false k x y l h = below_or_starts k x y h l

within_down : (whole : Bool) (k x y : List ℕ) → is_lt (text_order y x) ≡ false → (is_lt (text_order y k) || meets whole k y) ≡ true → (is_lt (text_order x k) || meets whole k x) ≡ true
within_down whole k x y le h = elim (cases_Bool (is_lt (text_order y k))) [
  | inl first ↦ or_first _ _ (below_down k x y le first)
  | inr later ↦ elim (not_above x y le) [
    | inl l ↦ meets_down whole k x y l (or_second _ _ h later)
    | inr same ↦ or_last _ _ (ap (meets whole k) same ∙ or_second _ _ h later)
  ]
]

meets_not_below : (whole : Bool) (k x : List ℕ) → meets whole k x ≡ true → is_lt (text_order x k) ≡ false
meets_not_below true k x h = ap is_lt (ap (λ (z : List ℕ). text_order z k) (sym (same_text k x h)) ∙ text_itself k)
meets_not_below false k x h = not_below k x h

-- ---- numbers

module _ (values : ProductList) (e : End) (r : Shape) (body : List ℕ) (whole : Bool) where
  abbrev pub before : ℕ → Bool
  before n = is_below e r body (product_value_at values n)

  abbrev pub has : ℕ → Bool
  has n = in_run e r body whole (product_value_at values n)

  abbrev pub within : ℕ → Bool
  within n = before n || has n

  within_is : (n : ℕ) → within n ≡ (before n || meets whole (shape_rank r ∷ turned_body e body) (product_key e (product_value_at values n)))
  within_is n = ap (λ (b : Bool). before n || b) (in_key e r body whole (product_value_at values n))

  pub before_parted : (order : List ℕ) → Rises e values order → IsParted before order
  before_parted order s = parted (NotAbove e values) before (λ x y le h. below_down (shape_rank r ∷ turned_body e body) (product_key e (product_value_at values x)) (product_key e (product_value_at values y)) le h) order s

  pub within_parted : (order : List ℕ) → Rises e values order → IsParted within order
  within_parted order s = parted (NotAbove e values) within (λ x y le h. within_is x ∙ within_down whole (shape_rank r ∷ turned_body e body) (product_key e (product_value_at values x)) (product_key e (product_value_at values y)) le (sym (within_is y) ∙ h)) order s

  has_not_before : (n : ℕ) → has n ≡ true → before n ≡ false
  has_not_before n h = meets_not_below whole (shape_rank r ∷ turned_body e body) (product_key e (product_value_at values n)) (sym (in_key e r body whole (product_value_at values n)) ∙ h)

  -- A number is in a run exactly if it is not before the run, but before it or in it.
  has_is : (n : ℕ) → has n ≡ (not (before n) && within n)
  has_is n = by (has n) (before n) (has_not_before n)
    where
      by : (h b : Bool) → (h ≡ true → b ≡ false) → h ≡ (not b && (b || h))
      by true b f = ap (λ (c : Bool). not c && (c || true)) (sym (f refl))
      by false true f = refl
      by false false f = refl

  pub run_is : (order : List ℕ) → filter (λ n. not (before n) && within n) order ≡ filter has order
  run_is [] = refl
  run_is (n ∷ order) =
      ap (λ (b : Bool). cond b (n ∷ filter (λ m. not (before m) && within m) order) (filter (λ m. not (before m) && within m) order)) (sym (has_is n))
      ∙ ap (λ (u : List ℕ). cond (has n) (n ∷ u) u) (run_is order)

-- ---- adding a number

less_not_above : (x y : List ℕ) → is_lt (text_order x y) ≡ true → is_lt (text_order y x) ≡ false
less_not_above x y h = ap is_lt (nat_list_cmp_total.antisymm y x ∙ ap ordering_reverse (lt_is _ h))

module _ (e : End) (values : ProductList) (n : ℕ) where
  -- whether a product is before the product of the number
  abbrev pub earlier : ℕ → Bool
  earlier m = is_below e (shape_of (product_value_at values n)) (body_of (product_value_at values n)) (product_value_at values m)

  not_above_all : (xs : List ℕ) → AllAre earlier true xs → AllByRecursion (λ m. NotAbove e values m n) xs
  not_above_all [] h = tt
  not_above_all (m ∷ xs) h = (less_not_above (product_key e (product_value_at values m)) (product_key e (product_value_at values n)) h.0, not_above_all xs h.1)

  pub put_rises : (old new : List ℕ) → Rises e values old → IsPut earlier n old new → Rises e values new
  put_rises old new s put =
      subst (Rises e values) (sym put.put)
      (put_ordered (NotAbove e values) put.front put.back n (subst (Rises e values) put.whole s) (not_above_all put.front put.passing) put.failing)

  pub put_permutes : (p : ℕ → Bool) (old new : List ℕ) → IsPut p n old new → IsPermutation (n ∷ old) new
  put_permutes p old new put =
      subst (λ (u : List ℕ). IsPermutation (n ∷ old) u) (sym put.put)
      (subst (λ (u : List ℕ). IsPermutation (n ∷ u) (put.front ++ (n ∷ put.back))) (sym put.whole)
      (IsPermutation-sym (put.front ++ (n ∷ put.back)) (n ∷ (put.front ++ put.back)) (IsPermutation-middle put.front n put.back)))
