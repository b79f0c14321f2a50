-- Lemmas: the numbers that have a product, if a product is added or removed.
use Rattle.std.proofs.Common.{◌≡◌, ◌≢◌, ℕ, zero, suc, ◌+◌, ◌<◌, ◌≤◌, Bool, true, false, cond, List, [], ◌∷◌, ◌++◌, length, Option, Some, None, refl, sym, ap, subst, ◌∙◌, inl, inr, is_lt, arith, eqb-true}
use Rattle.std.specs.Prelude.{nat_eq, is_some, IsSome}
use Rattle.std.specs.List.{AllByRecursion, Contains, filter, sum_by, range_with_len}
use Rattle.std.specs.List.Sorted.{IsPermutation}
use Rattle.std.proofs.lemmas.Bool.{cases_Bool, cases_eq, cases_lt, both_ways, eq-eqb, false_from_ne_true}
use Rattle.std.proofs.lemmas.Option.{same_Some, none-some}
use Rattle.std.proofs.lemmas.List.{get_or_past}
use Rattle.std.proofs.lemmas.List.Sums.{sum_by-cons, sum_by-append}
use Rattle.std.proofs.lemmas.List.Sorted.{sum_by-IsPermutation}
use Rattle.cpe_values.specs.declared.value.Value.{Value}
use Rattle.cpe_values.specs.Equal.{same_value-Decides}
use Rattle.cpe_values.specs.Lower.{lower_value}
use Rattle.cpe_values.specs.Same.{same_value}
use Rattle.name_index.specs.Blocks.{RemovesNumber}
use Rattle.name_index.specs.declared.keys.End.{End}
use Rattle.name_index.specs.declared.keys.End.TheVariants as end
use Rattle.name_index.specs.Elements.{SameElements}
use Rattle.name_index.specs.Keys.{text_order, product_key, NotAbove, Rises, Ordered}
use Rattle.name_index.specs.Listed.{ProductList, product_at, value_or, product_value_at, numbers_to, live, AddsProduct, Removes}
use Rattle.name_index.specs.Near.{AreOrders}
use Rattle.name_index.proofs.Sums.{if_passes, sum_filter}

-- ---- sums over numbers

range_agree : (g h : ℕ → ℕ) (a m : ℕ) → ((k : ℕ) → a ≤ k → g k ≡ h k) → sum_by g (range_with_len a m) ≡ sum_by h (range_with_len a m)
range_agree g h a zero same = refl
range_agree g h a (suc m) same =
    omega (arith, sum_by-cons g a (range_with_len (a + 1) m), sum_by-cons h a (range_with_len (a + 1) m), same a (omega arith), range_agree g h (a + 1) m (λ k le. same k (omega (arith, le))))

range_none : (g : ℕ → ℕ) (a m : ℕ) → ((k : ℕ) → a ≤ k → g k ≡ 0) → sum_by g (range_with_len a m) ≡ 0
range_none g a zero none = refl
range_none g a (suc m) none = omega (arith, sum_by-cons g a (range_with_len (a + 1) m), none a (omega arith), range_none g (a + 1) m (λ k le. none k (omega (arith, le))))

range_longer : (g : ℕ → ℕ) (a n m : ℕ) → n ≤ m → ((k : ℕ) → a + n ≤ k → g k ≡ 0) → sum_by g (range_with_len a m) ≡ sum_by g (range_with_len a n)
range_longer g a zero m le none = range_none g a m (λ k low. none k (omega (arith, low)))
range_longer g a (suc n) zero le none = absurd (omega (arith, le))
range_longer g a (suc n) (suc m) le none =
    omega (arith, sum_by-cons g a (range_with_len (a + 1) m), sum_by-cons g a (range_with_len (a + 1) n), range_longer g (a + 1) n m (omega (arith, le)) (λ k low. none k (omega (arith, low))))

-- Two sums differ by one number's part, if only this number's part differs.
range_point : (g h : ℕ → ℕ) (n a m : ℕ) → h n ≡ 0 → ((k : ℕ) → k ≢ n → g k ≡ h k) → a ≤ n → n < a + m → sum_by g (range_with_len a m) ≡ g n + sum_by h (range_with_len a m)
range_point g h n a zero none same low high = absurd (omega (arith, low, high))
range_point g h n a (suc m) none same low high = elim (cases_eq n a) [
  | inl is ↦ omega (arith, sum_by-cons g a (range_with_len (a + 1) m), sum_by-cons h a (range_with_len (a + 1) m), ap g is, ap h is, none, range_agree g h (a + 1) m (λ k le. same k (λ e. absurd (omega (arith, le, e, is)))))
  | inr ne ↦
      omega (arith, sum_by-cons g a (range_with_len (a + 1) m), sum_by-cons h a (range_with_len (a + 1) m), same a (λ e. ne (sym e)), range_point g h n (a + 1) m none same (apart n a ne low) (omega (arith, high)))
]
  where
    apart : (n a : ℕ) → n ≢ a → a ≤ n → a + 1 ≤ n
    apart n a ne le = omega (arith, ne, le)

range_has : (g : ℕ → ℕ) (n a m : ℕ) → a ≤ n → n < a + m → g n ≤ sum_by g (range_with_len a m)
range_has g n a zero low high = absurd (omega (arith, low, high))
range_has g n a (suc m) low high = elim (cases_eq n a) [
  | inl is ↦ omega (arith, sum_by-cons g a (range_with_len (a + 1) m), ap g is)
  | inr ne ↦ omega (arith, sum_by-cons g a (range_with_len (a + 1) m), range_has g n (a + 1) m (apart n a ne low) (omega (arith, high)))
]
  where
    apart : (n a : ℕ) → n ≢ a → a ≤ n → a + 1 ≤ n
    apart n a ne le = omega (arith, ne, le)

-- ---- sums over the numbers that have a product

abbrev counts : ProductList → (ℕ → ℕ) → ℕ → ℕ
counts products f n = cond (is_some (product_at products n)) (f n) 0

counts_none : (products : ProductList) (f : ℕ → ℕ) (n : ℕ) → product_at products n ≡ None → counts products f n ≡ 0
counts_none products f n h = ap {B = ℕ} (λ (o : Option Value). cond (is_some o) (f n) 0) h

counts_some : (products : ProductList) (f : ℕ → ℕ) (n : ℕ) (v : Value) → product_at products n ≡ Some v → counts products f n ≡ f n
counts_some products f n v h = ap {B = ℕ} (λ (o : Option Value). cond (is_some o) (f n) 0) h

pub none_past : (products : ProductList) (n : ℕ) → length products ≤ n → product_at products n ≡ None
none_past products n le = get_or_past products n None le

pub known : (products : ProductList) (n : ℕ) (v : Value) → product_at products n ≡ Some v → n < length products
known products n v h = elim (cases_lt n (length products)) [ inl lt ↦ lt | inr le ↦ absurd (none-some v (sym (none_past products n le) ∙ h)) ]

live_sum : (products : ProductList) (f : ℕ → ℕ) (m : ℕ) → length products ≤ m → sum_by f (live products) ≡ sum_by (counts products f) (numbers_to m)
live_sum products f m le =
    sum_filter f (λ n. is_some (product_at products n)) (numbers_to (length products)) ∙ sym (range_longer (counts products f) 0 (length products) m le (λ k low. counts_none products f k (none_past products k (omega (arith, low)))))

-- If a number without a product gets one, the sum grows by this number's part.
pub one_more_live : (fewer more : ProductList) (n : ℕ) (v : Value) → product_at fewer n ≡ None → product_at more n ≡ Some v → ((other : ℕ) → other ≢ n → product_at more other ≡ product_at fewer other) → (f : ℕ → ℕ) → sum_by f (live more) ≡ f n + sum_by f (live fewer)
one_more_live fewer more n v none some others f =
    let m = length fewer + length more in
    let same : sum_by (counts more f) (numbers_to m) ≡ counts more f n + sum_by (counts fewer f) (numbers_to m) =
    range_point (counts more f) (counts fewer f) n 0 m (counts_none fewer f n none) (λ k ne. ap {B = ℕ} (λ (o : Option Value). cond (is_some o) (f k) 0) (others k ne)) (omega arith) (omega (arith, known more n v some)) in
    omega (arith, live_sum more f m (omega arith), live_sum fewer f m (omega arith), same, counts_some more f n v some)

-- The numbers that have a given product: one number or none.
module _ (products : ProductList) (v : Value) where
  abbrev has : ℕ → Bool
  has k = same_value v (product_value_at products k)

  found : (f : ℕ → ℕ) → sum_by f (filter has (live products)) ≡ sum_by (counts products (if_passes has f)) (numbers_to (length products))
  found f = sum_filter f has (live products) ∙ live_sum products (if_passes has f) (length products) (omega arith)

  -- A number that doesn't have the product adds 0.
  adds_none : (f : ℕ → ℕ) (k : ℕ) → (product_at products k ≡ Some v → ⊥) → counts products (if_passes has f) k ≡ 0
  adds_none f k not_it = by (product_at products k) refl
    where
      by : (p : Option Value) → product_at products k ≡ p → counts products (if_passes has f) k ≡ 0
      by None e = counts_none products (if_passes has f) k e
      by (Some w) e =
          let other : same_value v w ≡ false = false_from_ne_true _ (λ same. not_it (e ∙ ap Some (sym ((same_value-Decides v w).0 same)))) in
          counts_some products (if_passes has f) k w e ∙ ap {B = ℕ} (λ (x : Value). cond (same_value v x) (f k) 0) (ap value_or e) ∙ ap {B = ℕ} (λ (b : Bool). cond b (f k) 0) other

  pub has_one : (n : ℕ) → product_at products n ≡ Some v → ((k : ℕ) → product_at products k ≡ Some v → k ≡ n) → SameElements (filter has (live products)) (n ∷ [])
  has_one n here one f =
      let adds = counts products (if_passes has f) in
      let it : adds n ≡ f n =
      counts_some products (if_passes has f) n v here ∙ ap {B = ℕ} (λ (x : Value). cond (same_value v x) (f n) 0) (ap value_or here) ∙ ap {B = ℕ} (λ (b : Bool). cond b (f n) 0) ((same_value-Decides v v).1 refl) in
      omega (
        arith,
        found f,
        range_point adds (λ k. 0) n 0 (length products) refl (λ k ne. adds_none f k (λ h. ne (one k h))) (omega arith) (omega (arith, known products n v here)),
        range_none (λ k. 0) 0 (length products) (λ k low. refl),
        it,
        sum_by-cons f n [],
      )

  pub has_none : ((k : ℕ) → product_at products k ≡ Some v → ⊥) → SameElements (filter has (live products)) []
  has_none none f = found f ∙ range_none (counts products (if_passes has f)) 0 (length products) (λ k low. adds_none f k (none k))

-- ---- whether a number is in a list

abbrev is_it : ℕ → ℕ → ℕ
is_it n k = cond (nat_eq k n) 1 0

apart_all : (n : ℕ) (ns : List ℕ) → sum_by (is_it n) ns ≡ 0 → AllByRecursion (λ k. k ≢ n) ns
apart_all n [] h = tt
apart_all n (k ∷ ns) h = elim (cases_Bool (nat_eq k n)) [
  | inl t ↦ absurd (omega (arith, h, sum_by-cons (is_it n) k ns, ap {B = ℕ} (λ (b : Bool). cond b 1 0) t))
  | inr f ↦ ((λ e. both_ways _ f (eq-eqb k n e)), apart_all n ns (omega (arith, h, sum_by-cons (is_it n) k ns)))
]

present : (n : ℕ) (ns : List ℕ) → 0 < sum_by (is_it n) ns → Contains ns n
present n [] h = absurd (omega (arith, h))
present n (k ∷ ns) h = elim (cases_Bool (nat_eq k n)) [
  | inl t ↦ (0, omega arith, eqb-true k n t)
  | inr f ↦ let c = present n ns (omega (arith, h, sum_by-cons (is_it n) k ns, ap {B = ℕ} (λ (b : Bool). cond b 1 0) f)) in (suc c.0, omega (arith, c.1), c.2)
]

pub in_order : (products : ProductList) (order : List ℕ) (n : ℕ) (v : Value) → SameElements (live products) order → product_at products n ≡ Some v → Contains order n
in_order products order n v same h =
    let one : is_it n n ≡ 1 = ap {B = ℕ} (λ (b : Bool). cond b 1 0) (eq-eqb n n refl) in
    let has : counts products (is_it n) n ≤ sum_by (counts products (is_it n)) (numbers_to (length products)) = range_has (counts products (is_it n)) n 0 (length products) (omega arith) (omega (arith, known products n v h)) in
    present n order (omega (arith, same (is_it n), live_sum products (is_it n) (length products) (omega arith), has, counts_some products (is_it n) n v h, one))

pub not_in_order : (products : ProductList) (order : List ℕ) (n : ℕ) → SameElements (live products) order → product_at products n ≡ None → AllByRecursion (λ k. k ≢ n) order
not_in_order products order n same h =
    apart_all n order (sym (same (is_it n)) ∙ live_sum products (is_it n) (length products) (omega arith) ∙ range_none (counts products (is_it n)) 0 (length products) (λ k low. none k (nat_eq k n) refl))
  where
    none : (k : ℕ) (b : Bool) → nat_eq k n ≡ b → counts products (is_it n) k ≡ 0
    none k true e = counts_none products (is_it n) k (ap (product_at products) (eqb-true k n e) ∙ h)
    none k false e = by (is_some (product_at products k)) (ap {B = ℕ} (λ (b : Bool). cond b 1 0) e)
      where
        by : (b : Bool) → is_it n k ≡ 0 → cond b (is_it n k) 0 ≡ 0
        by true z = z
        by false z = refl

-- ---- an order of numbers that keep their products

module _ (old new : ProductList) (n : ℕ) (others : (other : ℕ) → other ≢ n → product_at new other ≡ product_at old other) where
  value_same : (k : ℕ) → k ≢ n → product_value_at new k ≡ product_value_at old k
  value_same k ne = ap value_or (others k ne)

  row_same : (e : End) (m : ℕ) (ns : List ℕ) → m ≢ n → AllByRecursion (λ k. k ≢ n) ns → AllByRecursion (λ k. NotAbove e old m k) ns → AllByRecursion (λ k. NotAbove e new m k) ns
  row_same e m [] ne apart row = tt
  row_same e m (k ∷ ns) ne apart row = (
    ap (λ (x : Value). is_lt (text_order (product_key e x) (product_key e (product_value_at new m)))) (value_same k apart.0) ∙ ap (λ (x : Value). is_lt (text_order (product_key e (product_value_at old k)) (product_key e x))) (value_same m ne) ∙ row.0,
    row_same e m ns ne apart.1 row.1,
  )

  pub still_rises : (e : End) (order : List ℕ) → AllByRecursion (λ k. k ≢ n) order → Rises e old order → Rises e new order
  still_rises e [] apart s = tt
  still_rises e (m ∷ order) apart s = (row_same e m order apart.0 apart.1 s.0, still_rises e order apart.1 s.1)

-- ---- a number is added

pub rises_added : (old new : ProductList) (n : ℕ) (v : Value) (e : End) (order : List ℕ) → AddsProduct old new n v → SameElements (live old) order → Rises e old order → Rises e new order
rises_added old new n v e order a same s = still_rises old new n a.others e order (not_in_order old order n same a.free) s

all_added : (old new : ProductList) (n : ℕ) (v : Value) (order new_order : List ℕ) → AddsProduct old new n v → SameElements (live old) order → IsPermutation (n ∷ order) new_order → SameElements (live new) new_order
all_added old new n v order new_order a same put f = omega (arith, one_more_live old new n v a.free a.added a.others f, same f, sum_by-IsPermutation f (n ∷ order) new_order put, sum_by-cons f n order)

pub one_more : (old new : ProductList) (n : ℕ) (v : Value) (fronts backs new_fronts new_backs : List ℕ) → AreOrders old fronts backs → AddsProduct old new n v → lower_value v ≡ v → Rises end.Front new new_fronts → Rises end.Back new new_backs
    → IsPermutation (n ∷ fronts) new_fronts → IsPermutation (n ∷ backs) new_backs → AreOrders new new_fronts new_backs
one_more old new n v fronts backs new_fronts new_backs o a low front back put_front put_back = record {
  front = front;
  back = back;
  front_all = all_added old new n v fronts new_fronts a o.front_all put_front;
  back_all = all_added old new n v backs new_backs a o.back_all put_back;
  lower = λ k w h. elim (cases_eq k n) [
    | inl is ↦ subst (λ (x : Value). lower_value x ≡ x) (same_Some v w (sym a.added ∙ sym (ap (product_at new) is) ∙ h)) low
    | inr ne ↦ o.lower k w (sym (a.others k ne) ∙ h)
  ];
}

-- ---- a number is removed

module _ {X : Type 0} (R : X → X → Type 0) where
  all_less : (P : X → Type 0) (xs ys : List X) (n : X) → AllByRecursion P (xs ++ (n ∷ ys)) → AllByRecursion P (xs ++ ys)
  all_less P [] ys n h = h.1
  all_less P (x ∷ xs) ys n h = (h.0, all_less P xs ys n h.1)

  ordered_less : (xs ys : List X) (n : X) → Ordered R (xs ++ (n ∷ ys)) → Ordered R (xs ++ ys)
  ordered_less [] ys n s = s.1
  ordered_less (x ∷ xs) ys n s = (all_less (λ y. R x y) xs ys n s.0, ordered_less xs ys n s.1)

pub rises_taken : (e : End) (products : ProductList) (n : ℕ) (order new_order : List ℕ) → RemovesNumber n order new_order → Rises e products order → Rises e products new_order
rises_taken e products n order new_order t s = subst (Rises e products) (sym t.left) (ordered_less (NotAbove e products) t.front t.back n (subst (Rises e products) t.whole s))

pub same_taken : (n : ℕ) (order new_order : List ℕ) → RemovesNumber n order new_order → SameElements order (n ∷ new_order)
same_taken n order new_order t f =
    omega (arith, ap (sum_by f) t.whole, ap (sum_by f) t.left, sum_by-append f t.front (n ∷ t.back), sum_by-append f t.front t.back, sum_by-cons f n t.back, sum_by-cons f n new_order)

all_removed : (old new : ProductList) (n : ℕ) (v : Value) (order new_order : List ℕ) → product_at old n ≡ Some v → Removes old new n → SameElements (live old) order → SameElements order (n ∷ new_order) → SameElements (live new) new_order
all_removed old new n v order new_order was r same taken f =
    omega (arith, one_more_live new old n v r.free was (λ k ne. sym (r.others k ne)) f, same f, taken f, sum_by-cons f n new_order)

pub one_less : (old new : ProductList) (n : ℕ) (v : Value) (fronts backs new_fronts new_backs : List ℕ) → AreOrders old fronts backs → product_at old n ≡ Some v → Removes old new n → Rises end.Front old new_fronts → Rises end.Back old new_backs
    → SameElements fronts (n ∷ new_fronts) → SameElements backs (n ∷ new_backs) → AreOrders new new_fronts new_backs
one_less old new n v fronts backs new_fronts new_backs o was r front back taken_front taken_back =
    let fronts_are = all_removed old new n v fronts new_fronts was r o.front_all taken_front in
    let backs_are = all_removed old new n v backs new_backs was r o.back_all taken_back in
    record {
      front = still_rises old new n r.others end.Front new_fronts (not_in_order new new_fronts n fronts_are r.free) front;
      back = still_rises old new n r.others end.Back new_backs (not_in_order new new_backs n backs_are r.free) back;
      front_all = fronts_are;
      back_all = backs_are;
      lower = λ k w h. elim (cases_eq k n) [
        | inl is ↦ absurd (none-some w (sym r.free ∙ sym (ap (product_at new) is) ∙ h))
        | inr ne ↦ o.lower k w (sym (r.others k ne) ∙ h)
      ];
    }

-- The product of each number is in lower case, because each product is.
pub all_lower : (products : ProductList) (fronts backs : List ℕ) → AreOrders products fronts backs → (n : ℕ) → lower_value (product_value_at products n) ≡ product_value_at products n
all_lower products fronts backs o n = by (product_at products n) refl
  where
    by : (p : Option Value) → product_at products n ≡ p → lower_value (value_or p) ≡ value_or p
    by None e = refl
    by (Some v) e = o.lower n v e

pub some_there : (products : ProductList) (n : ℕ) → IsSome (product_at products n) → (v : Value) × (product_at products n ≡ Some v)
some_there products n h = by (product_at products n) refl h
  where
    by : (p : Option Value) → product_at products n ≡ p → IsSome p → (v : Value) × (product_at products n ≡ Some v)
    by None e s = absurd cc
    by (Some v) e s = (v, e)
