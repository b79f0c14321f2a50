-- Lemmas: the held numbers of an index, product by product, if one list changes.
use Rattle.std.proofs.Common.{◌≡◌, ◌≢◌, ℕ, zero, suc, ◌+◌, ◌<◌, ◌≤◌, Bool, true, false, cond, eqb, ltb, List, [], ◌∷◌, ◌++◌, map, length, Option, Some, None, refl, sym, ap, subst, ◌∙◌, inl, inr, arith, eqb-true, eq-eqb}
use Rattle.std.specs.Prelude.{nat_eq, IsSome, slice_get}
use Rattle.std.specs.Bool.{OnTrue}
use Rattle.std.specs.List.{sum_by, flat_map, range_with_len, Contains}
use Rattle.std.proofs.lemmas.Bool.{cases_Bool, ltb-true, both_ways, false_from_ne_true}
use Rattle.std.proofs.lemmas.Option.{slice_get_within, same_Some}
use Rattle.std.proofs.lemmas.List.{map_push, length_push}
use Rattle.std.proofs.lemmas.List.Sums.{sum_by-cons, sum_by-append, sum_by_push}
use Rattle.list_pool.specs.Pool.{Row as CellRow, list_at, find_list, IsLiveList, Updates, Pushes, has_value, without_first_cell}
use Rattle.list_pool.specs.declared.ListName.{ListName}
use Rattle.name_index.specs.Elements.{SameElements}
use Rattle.name_index.specs.Listed.{numbers_to}
use Rattle.name_index.specs.Index.{cell_values, posting_of, posting, pairs_at, pairs, times_held, IsIndex}
use Rattle.name_index.proofs.Fitting.{is_pair, pair_counts}
use Rattle.name_index.proofs.TableChanges.{same_or, at_least}

-- ---- reading lists

slice_get_push : {X : Type 0} (xs : List X) (x : X) → slice_get (xs ++ x ∷ []) (length xs) ≡ Some x
slice_get_push [] x = refl
slice_get_push (y ∷ xs) x = slice_get_push xs x

slice_get-push_other : {X : Type 0} (xs : List X) (x : X) (j : ℕ) → j ≢ length xs → slice_get (xs ++ x ∷ []) j ≡ slice_get xs j
slice_get-push_other [] x zero h = absurd (h refl)
slice_get-push_other [] x (suc j) h = refl
slice_get-push_other (y ∷ xs) x zero h = refl
slice_get-push_other (y ∷ xs) x (suc j) h = slice_get-push_other xs x j (λ e. h (ap suc e))

-- ---- sums

pub sum_map : {X Y : Type 0} (f : Y → ℕ) (g : X → Y) (xs : List X) → sum_by f (map g xs) ≡ sum_by (λ x. f (g x)) xs
sum_map f g [] = refl
sum_map f g (x ∷ xs) = omega (arith, sum_by-cons f (g x) (map g xs), sum_by-cons (λ y. f (g y)) x xs, sum_map f g xs)

pub sum_flat : {X Y : Type 0} (f : Y → ℕ) (g : X → List Y) (xs : List X) → sum_by f (flat_map g xs) ≡ sum_by (λ x. sum_by f (g x)) xs
sum_flat f g [] = refl
sum_flat f g (x ∷ xs) = omega (arith, sum_by-append f (g x) (flat_map g xs), sum_by-cons (λ y. sum_by f (g y)) x xs, sum_flat f g xs)

pub range_agree : (g h : ℕ → ℕ) (a n : ℕ) → ((p : ℕ) → a ≤ p → p < a + n → g p ≡ h p) → sum_by g (range_with_len a n) ≡ sum_by h (range_with_len a n)
range_agree g h a zero same = refl
range_agree g h a (suc n) same =
    omega (arith, sum_by-cons g a (range_with_len (a + 1) n), sum_by-cons h a (range_with_len (a + 1) n), same a (omega arith) (omega arith), range_agree g h (a + 1) n (λ p low high. same p (omega (arith, low)) (omega (arith, high))))

pub range_one : (g h : ℕ → ℕ) (a n i : ℕ) → a ≤ i → i < a + n → ((p : ℕ) → p ≢ i → g p ≡ h p) → sum_by g (range_with_len a n) + h i ≡ sum_by h (range_with_len a n) + g i
range_one g h a zero i low high same = absurd (omega (arith, low, high))
range_one g h a (suc n) i low high same = elim (same_or a i) [
  | inl is ↦ omega (arith, sum_by-cons g a (range_with_len (a + 1) n), sum_by-cons h a (range_with_len (a + 1) n), ap g is, ap h is, range_agree g h (a + 1) n (λ p l u. same p (λ e. absurd (omega (arith, e, is, l)))))
  | inr ne ↦ omega (arith, sum_by-cons g a (range_with_len (a + 1) n), sum_by-cons h a (range_with_len (a + 1) n), same a ne, range_one g h (a + 1) n i (omega (arith, low, ne)) (omega (arith, high)) same)
]

pub range_none : (g : ℕ → ℕ) (a n : ℕ) → ((p : ℕ) → a ≤ p → p < a + n → g p ≡ 0) → sum_by g (range_with_len a n) ≡ 0
range_none g a zero none = refl
range_none g a (suc n) none = omega (arith, sum_by-cons g a (range_with_len (a + 1) n), none a (omega arith) (omega arith), range_none g (a + 1) n (λ p low high. none p (omega (arith, low)) (omega (arith, high))))

-- ---- the held numbers, product by product

-- the sum over the held numbers of one product
abbrev pub weighs : List (Option (List CellRow)) → List ListName → (ℕ × ℕ → ℕ) → ℕ → ℕ
weighs lists heads f p = sum_by (λ (v : ℕ). f (v, p)) (posting lists heads p)

pub pairs_sum : (lists : List (Option (List CellRow))) (heads : List ListName) (f : ℕ × ℕ → ℕ) → sum_by f (pairs lists heads) ≡ sum_by (weighs lists heads f) (numbers_to (length heads))
pairs_sum lists heads f =
    sum_flat f (pairs_at lists heads) (numbers_to (length heads)) ∙ range_agree (λ p. sum_by f (pairs_at lists heads p)) (weighs lists heads f) 0 (length heads) (λ p low high. sum_map f (λ (v : ℕ). (v, p)) (posting lists heads p))

list_is : (lists : List (Option (List CellRow))) (name : ℕ) (xs : List CellRow) → find_list lists name ≡ Some xs → list_at lists name ≡ xs
list_is lists name xs h = ap Rattle.list_pool.specs.Pool.rows_or_none h

module _ (old new : List (Option (List CellRow))) (heads : List ListName) (i : ℕ) (h : ListName) (xs : List CellRow) (x : IsIndex old heads) (at : slice_get heads i ≡ Some h) (up : Updates old new h.0 (Some xs)) where
  inside : i < length heads
  inside = slice_get_within heads i h at

  pub posting_new : posting new heads i ≡ cell_values xs
  posting_new = ap (posting_of new) at ∙ ap cell_values (list_is new h.0 xs up.changed)

  pub posting_old : posting old heads i ≡ cell_values (list_at old h.0)
  posting_old = ap (posting_of old) at

  other_lists : (p : ℕ) (o : Option ListName) → slice_get heads p ≡ o → p ≢ i → posting_of new o ≡ posting_of old o
  other_lists p None e ne = refl
  other_lists p (Some g) e ne = ap (λ (l : Option (List CellRow)). cell_values (Rattle.list_pool.specs.Pool.rows_or_none l)) (up.others g.0 (λ same. ne (x.apart p i g h e at same)))

  pub posting_other : (p : ℕ) → p ≢ i → posting new heads p ≡ posting old heads p
  posting_other p ne = other_lists p (slice_get heads p) refl ne

  -- The sum over all held numbers after the change of one list.
  pub changed_sum : (f : ℕ × ℕ → ℕ) → sum_by f (pairs new heads) + sum_by (λ (v : ℕ). f (v, i)) (cell_values (list_at old h.0)) ≡ sum_by f (pairs old heads) + sum_by (λ (v : ℕ). f (v, i)) (cell_values xs)
  changed_sum f =
      let one = range_one (weighs new heads f) (weighs old heads f) 0 (length heads) i (omega arith) (omega (arith, inside)) (λ p ne. ap (λ (vs : List ℕ). sum_by (λ (v : ℕ). f (v, p)) vs) (posting_other p ne)) in
      let mine : weighs new heads f i ≡ sum_by (λ (v : ℕ). f (v, i)) (cell_values xs) = ap (λ (vs : List ℕ). sum_by (λ (v : ℕ). f (v, i)) vs) posting_new in
      let was : weighs old heads f i ≡ sum_by (λ (v : ℕ). f (v, i)) (cell_values (list_at old h.0)) = ap (λ (vs : List ℕ). sum_by (λ (v : ℕ). f (v, i)) vs) posting_old in
      omega (arith, one, mine, was, pairs_sum new heads f, pairs_sum old heads f)

  live_still : (p : ℕ) (g : ListName) → slice_get heads p ≡ Some g → IsLiveList new g.0
  live_still p g e = elim (same_or g.0 h.0) [
    | inl is ↦ subst (λ (n : ℕ). IsSome (find_list new n)) (sym is) (subst IsSome (sym up.changed) refl)
    | inr ne ↦ subst IsSome (sym (up.others g.0 ne)) (x.live p g e)
  ]

  pub still_index : ((id : ℕ) → times_held (pairs new heads) id ≤ 1) → IsIndex new heads
  still_index once = record { live = live_still; apart = x.apart; once = once }

-- ---- a number is added, or removed

abbrev is_id : ℕ → ℕ × ℕ → ℕ
is_id id x = cond (nat_eq id x.0) 1 0

pub record Added (old new : List (Option (List CellRow))) (heads : List ListName) (id product : ℕ) : Type 0 where
  pub index : IsIndex new heads
  pub held : SameElements ((id, product) ∷ pairs old heads) (pairs new heads)

pub added : (old new : List (Option (List CellRow))) (heads : List ListName) (id product : ℕ) (h : ListName) → IsIndex old heads → slice_get heads product ≡ Some h → Pushes old new h.0 id → times_held (pairs old heads) id ≡ 0 → Added old new heads id product
added old new heads id product h x at push fresh =
    let xs = list_at old h.0 ++ (push.0, id) ∷ [] in
    record { index = still_index old new heads product h xs x at push.2 (λ k. once k); held = same }
  where
    same : SameElements ((id, product) ∷ pairs old heads) (pairs new heads)
    same f =
        let more : sum_by (λ (v : ℕ). f (v, product)) (cell_values (list_at old h.0 ++ (push.0, id) ∷ [])) ≡ sum_by (λ (v : ℕ). f (v, product)) (cell_values (list_at old h.0)) + f (id, product) =
        ap (sum_by (λ (v : ℕ). f (v, product))) (map_push (λ (r : CellRow). r.1) (list_at old h.0) (push.0, id)) ∙ sum_by_push (λ (v : ℕ). f (v, product)) (cell_values (list_at old h.0)) id in
        omega (arith, changed_sum old new heads product h (list_at old h.0 ++ (push.0, id) ∷ []) x at push.2 f, more, sum_by-cons f (id, product) (pairs old heads))

    once : (k : ℕ) → times_held (pairs new heads) k ≤ 1
    once k = elim (same_or k id) [
      | inl is ↦ omega (arith, same (is_id k), sum_by-cons (is_id k) (id, product) (pairs old heads), ap {B = ℕ} (λ (b : Bool). cond b 1 0) (eq-eqb k id is), ap (times_held (pairs old heads)) is, fresh)
      | inr ne ↦ omega (arith, same (is_id k), sum_by-cons (is_id k) (id, product) (pairs old heads), ap {B = ℕ} (λ (b : Bool). cond b 1 0) (false_from_ne_true _ (λ t. ne (eqb-true k id t))), x.once k)
    ]

sum_without : (f : ℕ → ℕ) (value : ℕ) (xs : List CellRow) → has_value value xs ≡ true → sum_by f (cell_values (without_first_cell value xs)) + f value ≡ sum_by f (cell_values xs)
sum_without f value [] h = absurd cc
sum_without f value (x ∷ xs) h = by (eqb x.1 value) refl (λ k. sum_without f value xs k) h
  where
    by : (b : Bool) → eqb x.1 value ≡ b → (has_value value xs ≡ true → sum_by f (cell_values (without_first_cell value xs)) + f value ≡ sum_by f (cell_values xs)) → cond b true (has_value value xs) ≡ true → sum_by f (cell_values (cond b xs (x ∷ without_first_cell value xs))) + f value ≡ sum_by f (cell_values (x ∷ xs))
    by true e more k = omega (arith, sum_by-cons f x.1 (cell_values xs), ap f (eqb-true x.1 value e))
    by false e more k = omega (arith, sum_by-cons f x.1 (cell_values xs), sum_by-cons f x.1 (cell_values (without_first_cell value xs)), more k)

no_value : (value : ℕ) (xs : List CellRow) → has_value value xs ≡ false → sum_by (λ (v : ℕ). cond (nat_eq value v) 1 0) (cell_values xs) ≡ 0
no_value value [] h = refl
no_value value (x ∷ xs) h = by (eqb x.1 value) refl (λ k. no_value value xs k) h
  where
    by : (b : Bool) → eqb x.1 value ≡ b → (has_value value xs ≡ false → sum_by (λ (v : ℕ). cond (nat_eq value v) 1 0) (cell_values xs) ≡ 0) → cond b true (has_value value xs) ≡ false → sum_by (λ (v : ℕ). cond (nat_eq value v) 1 0) (cell_values (x ∷ xs)) ≡ 0
    by true e more k = absurd cc
    by false e more k =
        let no_ : nat_eq value x.1 ≡ false = false_from_ne_true _ (λ t. both_ways _ e (eq-eqb x.1 value (sym (eqb-true value x.1 t)))) in
        omega (arith, sum_by-cons (λ (v : ℕ). cond (nat_eq value v) 1 0) x.1 (cell_values xs), ap {B = ℕ} (λ (c : Bool). cond c 1 0) no_, more k)

-- ---- a held number is in the list of its product

module _ (lists : List (Option (List CellRow))) (heads : List ListName) (id product : ℕ) (has : Contains (pairs lists heads) (id, product)) where
  counted : 1 ≤ sum_by (is_pair id product) (pairs lists heads)
  counted = pair_counts id product (pairs lists heads) has

  elsewhere : (p : ℕ) → p ≢ product → weighs lists heads (is_pair id product) p ≡ 0
  elsewhere p ne = none (posting lists heads p)
    where
      none : (vs : List ℕ) → sum_by (λ (v : ℕ). is_pair id product (v, p)) vs ≡ 0
      none [] = refl
      none (v ∷ vs) = omega (arith, sum_by-cons (λ (w : ℕ). is_pair id product (w, p)) v vs, ap {B = ℕ} (λ (b : Bool). cond b (cond (nat_eq id v) 1 0) 0) (false_from_ne_true _ (λ t. ne (sym (eqb-true product p t)))), none vs)

  pub product_known : product < length heads
  product_known = elim (cases_Bool (ltb product (length heads))) [
    | inl t ↦ ltb-true product (length heads) t
    | inr t ↦ absurd (omega (arith, counted, pairs_sum lists heads (is_pair id product), range_none (weighs lists heads (is_pair id product)) 0 (length heads) (λ p low high. elsewhere p (λ e. absurd (omega (arith, e, high, at_least product (length heads) t))))))
  ]

  mine : 1 ≤ weighs lists heads (is_pair id product) product
  mine = omega (arith, counted, pairs_sum lists heads (is_pair id product), range_one (weighs lists heads (is_pair id product)) (λ p. 0) 0 (length heads) product (omega arith) (omega (arith, product_known)) elsewhere, range_none (λ p. 0) 0 (length heads) (λ p low high. refl))

  pub found_there : (h : ListName) → slice_get heads product ≡ Some h → has_value id (list_at lists h.0) ≡ true
  found_there h at = elim (cases_Bool (has_value id (list_at lists h.0))) [
    | inl t ↦ t
    | inr t ↦ absurd (omega (arith, mine, same (cell_values (list_at lists h.0)), ap (λ (o : Option ListName). sum_by (λ (v : ℕ). is_pair id product (v, product)) (posting_of lists o)) at, no_value id (list_at lists h.0) t))
  ]
    where
      same : (vs : List ℕ) → sum_by (λ (v : ℕ). is_pair id product (v, product)) vs ≡ sum_by (λ (v : ℕ). cond (nat_eq id v) 1 0) vs
      same [] = refl
      same (v ∷ vs) = omega (arith, sum_by-cons (λ (w : ℕ). is_pair id product (w, product)) v vs, sum_by-cons (λ (w : ℕ). cond (nat_eq id w) 1 0) v vs, ap {B = ℕ} (λ (b : Bool). cond b (cond (nat_eq id v) 1 0) 0) (eq-eqb product product refl), same vs)

pub record Dropped (old new : List (Option (List CellRow))) (heads : List ListName) (id product : ℕ) : Type 0 where
  pub index : IsIndex new heads
  pub held : SameElements (pairs old heads) ((id, product) ∷ pairs new heads)

pub dropped : (old new : List (Option (List CellRow))) (heads : List ListName) (id product : ℕ) (h : ListName) → IsIndex old heads → slice_get heads product ≡ Some h → has_value id (list_at old h.0) ≡ true
    → Updates old new h.0 (Some (without_first_cell id (list_at old h.0))) → Dropped old new heads id product
dropped old new heads id product h x at has up =
    record { index = still_index old new heads product h (without_first_cell id (list_at old h.0)) x at up (λ k. omega (arith, same (is_id k), sum_by-cons (is_id k) (id, product) (pairs new heads), x.once k)); held = same }
  where
    same : SameElements (pairs old heads) ((id, product) ∷ pairs new heads)
    same f = omega (arith, changed_sum old new heads product h (without_first_cell id (list_at old h.0)) x at up f, sum_without (λ (v : ℕ). f (v, product)) id (list_at old h.0) has, sum_by-cons f (id, product) (pairs new heads))

-- ---- a list for a new product

flat_more : {Y : Type 0} (g h : ℕ → List Y) (a n k : ℕ) → k ≡ suc n → ((p : ℕ) → a ≤ p → p < a + n → g p ≡ h p) → g (a + n) ≡ [] → flat_map g (range_with_len a k) ≡ flat_map h (range_with_len a n)
flat_more {Y} g h a zero k e same last =
    let at : a ≡ a + 0 = omega arith in
    ap (λ (j : ℕ). flat_map g (range_with_len a j)) e ∙ ap (λ (u : List Y). u ++ []) (ap g at ∙ last)
flat_more {Y} g h a (suc n) k e same last =
    let at : a + 1 + n ≡ a + suc n = omega arith in
    ap (λ (j : ℕ). flat_map g (range_with_len a j)) e
    ∙ ap (λ (u : List Y). u ++ flat_map g (range_with_len (a + 1) (suc n))) (same a (omega arith) (omega arith))
    ∙ ap (λ (u : List Y). h a ++ u) (flat_more g h (a + 1) n (suc n) refl (λ p low high. same p (omega (arith, low)) (omega (arith, high))) (ap g at ∙ last))

pub record Longer (old new : List (Option (List CellRow))) (heads : List ListName) (list : ListName) : Type 0 where
  pub index : IsIndex new (heads ++ list ∷ [])
  pub held : pairs new (heads ++ list ∷ []) ≡ pairs old heads

pub longer : (old new : List (Option (List CellRow))) (heads : List ListName) (list : ListName) → IsIndex old heads → find_list old list.0 ≡ None → Updates old new list.0 (Some []) → Longer old new heads list
longer old new heads list x fresh up = record { index = record { live = live; apart = apart; once = λ id. subst (λ (ps : List (ℕ × ℕ)). times_held ps id ≤ 1) (sym same) (x.once id) }; held = same }
  where
    read_old : (p : ℕ) → p < length heads → slice_get (heads ++ list ∷ []) p ≡ slice_get heads p
    read_old p lt = slice_get-push_other heads list p (λ e. absurd (omega (arith, e, lt)))

    read_new : slice_get (heads ++ list ∷ []) (length heads) ≡ Some list
    read_new = slice_get_push heads list

    not_fresh : (g : ListName) → IsLiveList old g.0 → g.0 ≢ list.0
    not_fresh g l e = none (subst (λ (n : ℕ). IsSome (find_list old n)) e l)
      where
        none : IsSome (find_list old list.0) → ⊥
        none s = absurd (is_none (subst (λ (o : Option (List CellRow)). IsSome o) fresh s))
          where
            is_none : IsSome {T = List CellRow} None → ⊥
            is_none k = absurd cc

    posting_by : (o : Option ListName) → ((g : ListName) → o ≡ Some g → IsLiveList old g.0) → posting_of new o ≡ posting_of old o
    posting_by None l = refl
    posting_by (Some g) l = ap (λ (u : Option (List CellRow)). cell_values (Rattle.list_pool.specs.Pool.rows_or_none u)) (up.others g.0 (not_fresh g (l g refl)))

    same : pairs new (heads ++ list ∷ []) ≡ pairs old heads
    same = flat_more (pairs_at new (heads ++ list ∷ [])) (pairs_at old heads) 0 (length heads) (length (heads ++ list ∷ [])) (length_push heads list ∙ omega arith)
        (λ p low high. ap (λ (vs : List ℕ). map (λ (v : ℕ). (v, p)) vs) (ap (posting_of new) (read_old p (omega (arith, high))) ∙ posting_by (slice_get heads p) (λ g e. x.live p g e)))
        (ap (λ (vs : List ℕ). map (λ (v : ℕ). (v, 0 + length heads)) vs) (ap (λ (k : ℕ). posting new (heads ++ list ∷ []) k) (let z : 0 + length heads ≡ length heads = omega arith in z) ∙ ap (posting_of new) read_new ∙ ap cell_values (list_is new list.0 [] up.changed)))

    live : (p : ℕ) (g : ListName) → slice_get (heads ++ list ∷ []) p ≡ Some g → IsLiveList new g.0
    live p g e = elim (same_or g.0 list.0) [
      | inl is ↦ subst (λ (n : ℕ). IsSome (find_list new n)) (sym is) (subst IsSome (sym up.changed) refl)
      | inr ne ↦ subst IsSome (sym (up.others g.0 ne)) (x.live p g (sym (read_old p (below p g e ne)) ∙ e))
    ]
      where
        below : (p : ℕ) (g : ListName) → slice_get (heads ++ list ∷ []) p ≡ Some g → g.0 ≢ list.0 → p < length heads
        below p g e ne = elim (same_or p (length heads)) [
          | inl is ↦ absurd (ne (ap (λ (l : ListName). l.0) (same_Some g list (sym e ∙ ap (slice_get (heads ++ list ∷ [])) is ∙ read_new))))
          | inr np ↦ omega (arith, slice_get_within (heads ++ list ∷ []) p g e, np, length_push heads list)
        ]

    apart : (p q : ℕ) (g k : ListName) → slice_get (heads ++ list ∷ []) p ≡ Some g → slice_get (heads ++ list ∷ []) q ≡ Some k → g.0 ≡ k.0 → p ≡ q
    apart p q g k e f is = elim (same_or p (length heads)) [
      | inl ep ↦ elim (same_or q (length heads)) [
        | inl eq ↦ ep ∙ sym eq
        | inr nq ↦ absurd (not_fresh k (old_live q k f nq) (sym is ∙ its p g e ep))
      ]
      | inr np ↦ elim (same_or q (length heads)) [
        | inl eq ↦ absurd (not_fresh g (old_live p g e np) (is ∙ its q k f eq))
        | inr nq ↦ x.apart p q g k (old_read p g e np) (old_read q k f nq) is
      ]
    ]
      where
        its : (p : ℕ) (g : ListName) → slice_get (heads ++ list ∷ []) p ≡ Some g → p ≡ length heads → g.0 ≡ list.0
        its p g e ep = ap (λ (l : ListName). l.0) (same_Some g list (sym e ∙ ap (slice_get (heads ++ list ∷ [])) ep ∙ read_new))

        old_read : (p : ℕ) (g : ListName) → slice_get (heads ++ list ∷ []) p ≡ Some g → p ≢ length heads → slice_get heads p ≡ Some g
        old_read p g e np = sym (read_old p (omega (arith, slice_get_within (heads ++ list ∷ []) p g e, np, length_push heads list))) ∙ e

        old_live : (p : ℕ) (g : ListName) → slice_get (heads ++ list ∷ []) p ≡ Some g → p ≢ length heads → IsLiveList old g.0
        old_live p g e np = x.live p g (old_read p g e np)

-- A number was removed from the list of its product.
pub record Removal (old new : List (Option (List CellRow))) (heads : List ListName) (id product : ℕ) (result : Bool) : Type 0 where
  pub there : result ≡ true
  pub index : IsIndex new heads
  pub held : SameElements (pairs old heads) ((id, product) ∷ pairs new heads)

pub when_true : {P : Type 0} {b : Bool} → b ≡ true → OnTrue b P → P
when_true {P} {b} e h = subst (λ (x : Bool). OnTrue x P) e h

pub removal : (old new : List (Option (List CellRow))) (heads : List ListName) (id product : ℕ) (h : ListName) (result : Bool) → IsIndex old heads → slice_get heads product ≡ Some h → Contains (pairs old heads) (id, product)
    → result ≡ has_value id (list_at old h.0) → OnTrue result (Updates old new h.0 (Some (without_first_cell id (list_at old h.0)))) → Removal old new heads id product result
removal old new heads id product h result x at has is up =
    let found = found_there old heads id product has h at in
    let d = dropped old new heads id product h x at found (when_true (is ∙ found) up) in
    record { there = is ∙ found; index = d.index; held = d.held }
