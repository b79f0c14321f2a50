-- Lemmas: the products near a plain text, run by run.
use Rattle.std.proofs.Common.{◌≡◌, ◌⊎◌, ℕ, zero, suc, ◌+◌, ◌-◌, ◌<◌, ◌≤◌, Bool, true, false, not, ◌&&◌, ◌||◌, cond, eqb, ltb, List, [], ◌++◌, length, take, drop, refl, sym, ap, ◌∙◌, inl, inr, arith, eqb-true, eq-eqb, length-append, length-drop}
use Rattle.std.specs.Cmp.{both_ways as agree}
use Rattle.std.specs.Prelude.{nat_eq}
use Rattle.std.specs.List.{filter, sum_by, starts_with, ends_with}
use Rattle.std.proofs.lemmas.List.{length-take-le, take-append-drop, drop_at, take_at}
use Rattle.std.proofs.lemmas.List.Sums.{sum_by-append}
use Rattle.std.proofs.lemmas.Slice.Eq.{starts_is, ends_is}
use Rattle.std.proofs.lemmas.Bool.{cases_Bool, ltb-true, lt-ltb, and_parts, and_from, false_from_ne_true, both_ways}
use lib.Pointwise.{pointwise}
use Rattle.cpe_values.specs.declared.value.Value.{Value}
use Rattle.cpe_values.specs.declared.value.Value.TheVariants as value
use Rattle.cpe_values.specs.Parts.{Parts, is_nothing}
use Rattle.cpe_values.specs.Lower.{lower_value}
use Rattle.cpe_relation.specs.Near.{near, near_plain}
use Rattle.name_index.specs.declared.keys.End.TheVariants as end
use Rattle.name_index.specs.declared.keys.Shape.{Shape}
use Rattle.name_index.specs.declared.keys.Shape.TheVariants as shape
use Rattle.name_index.specs.Elements.{SameElements}
use Rattle.name_index.specs.Keys.{shape_by, shape_of, shape_rank, body_of, in_run}
use Rattle.name_index.specs.Listed.{product_value_at, ProductList}
use Rattle.name_index.specs.Walk.{shape_runs, all_runs}
use Rattle.name_index.proofs.Texts.{nat_Decides}
use Rattle.name_index.proofs.Orders.{same_text, text_same}
use Rattle.name_index.proofs.Lower.{lower_body, near_by, near_plain_is}
use Rattle.name_index.proofs.Sums.{if_passes, sum_filter, sum_stronger, sum_agree, sum_both, sum_none, filter_same, tests_agree}

-- ---- runs as sums

pub runs_same : (values : ProductList) (xs ys : List ℕ) (r : Shape) (piece : ℕ → List ℕ) (k : ℕ) → SameElements xs ys → SameElements (shape_runs values xs r piece k) (shape_runs values ys r piece k)
runs_same values xs ys r piece zero same f = refl
runs_same values xs ys r piece (suc k) same f =
    let here = λ (n : ℕ). in_run end.Front r (piece k) true (product_value_at values n) in
    omega (arith, sum_by-append f (filter here xs) (shape_runs values xs r piece k), sum_by-append f (filter here ys) (shape_runs values ys r piece k), filter_same here xs ys same f, runs_same values xs ys r piece k same f)

pub all_same : (values : ProductList) (xs ys text : List ℕ) (k m : ℕ) → SameElements xs ys → SameElements (all_runs values xs text k m) (all_runs values ys text k m)
all_same values xs ys text k m same f =
    let front = λ (j : ℕ). take j text in
    let end_ = λ (j : ℕ). drop (length text - j) text in
    omega (arith, sum_by-append f (shape_runs values xs shape.WithTrail front k) (shape_runs values xs shape.WithLead end_ m), sum_by-append f (shape_runs values ys shape.WithTrail front k) (shape_runs values ys shape.WithLead end_ m), runs_same values xs ys shape.WithTrail front k same f, runs_same values xs ys shape.WithLead end_ m same f)

-- ---- no product has the shape

-- If no product has the shape, no product is in a run of the shape.
module _ (values : ProductList) (ns : List ℕ) (s : Shape) (found : List ℕ) (shaped : SameElements (filter (λ n. in_run end.Front s [] false (product_value_at values n)) ns) found) (none : found ≡ []) where
  abbrev of_shape : ℕ → Bool
  of_shape n = in_run end.Front s [] false (product_value_at values n)

  no_run : (piece : List ℕ) (f : ℕ → ℕ) → sum_by f (filter (λ n. in_run end.Front s piece true (product_value_at values n)) ns) ≡ 0
  no_run piece f =
      let whole = λ (n : ℕ). in_run end.Front s piece true (product_value_at values n) in
      omega (arith, sum_stronger f whole of_shape (λ n h. and_from _ _ (and_parts _ _ h).0 refl) ns, shaped f, ap (sum_by f) none)

  pub no_runs : (piece : ℕ → List ℕ) (k : ℕ) (f : ℕ → ℕ) → sum_by f (shape_runs values ns s piece k) ≡ 0
  no_runs piece zero f = refl
  no_runs piece (suc k) f =
      omega (arith, sum_by-append f (filter (λ n. in_run end.Front s (piece k) true (product_value_at values n)) ns) (shape_runs values ns s piece k), no_run (piece k) f, no_runs piece k f)

-- ---- what a product adds to the sum

-- what a product adds to the sum over all pieces
abbrev pub adds : Shape → (ℕ → List ℕ) → ℕ → Value → ℕ → ℕ
adds r piece zero v w = 0
adds r piece (suc k) v w = cond (in_run end.Front r (piece k) true v) w 0 + adds r piece k v w

pub runs_sum : (values : ProductList) (order : List ℕ) (r : Shape) (piece : ℕ → List ℕ) (f : ℕ → ℕ) (k : ℕ) → sum_by f (shape_runs values order r piece k) ≡ sum_by (λ n. adds r piece k (product_value_at values n) (f n)) order
runs_sum values order r piece f zero = sym (sum_none order)
runs_sum values order r piece f (suc k) =
    let here = λ (n : ℕ). in_run end.Front r (piece k) true (product_value_at values n) in
    sum_by-append f (filter here order) (shape_runs values order r piece k)
    ∙ ap (λ (m : ℕ). m + sum_by f (shape_runs values order r piece k)) (sum_filter f here order)
    ∙ ap (λ (m : ℕ). sum_by (if_passes here f) order + m) (runs_sum values order r piece f k)
    ∙ sym (sum_both (if_passes here f) (λ n. adds r piece k (product_value_at values n) (f n)) order)

-- ---- a body equals at most one piece

one_more : (m k w : ℕ) → cond (eqb m k) w 0 + cond (ltb m k) w 0 ≡ cond (ltb m (suc k)) w 0
one_more m k w = by (eqb m k) (ltb m k) refl refl
  where
    above : m < suc k → eqb m k ≡ false → ltb m k ≡ false → ⊥
    above lt e l = elim (cases_Bool (ltb m k)) [
      | inl yes_ ↦ both_ways _ l yes_
      | inr _ ↦ elim (cases_Bool (eqb m k)) [ inl same ↦ both_ways _ e same | inr differ ↦ not_both (omega (arith, lt)) e l ]
    ]
      where
        not_both : m ≤ k → eqb m k ≡ false → ltb m k ≡ false → ⊥
        not_both le e l = by_order (le_cases m k le)
          where
            le_cases : (a b : ℕ) → a ≤ b → (a < b) ⊎ (a ≡ b)
            le_cases zero zero h = inr refl
            le_cases zero (suc b) h = inl (omega arith)
            le_cases (suc a) zero h = absurd (omega (arith, h))
            le_cases (suc a) (suc b) h = elim (le_cases a b (omega (arith, h))) [ inl lt ↦ inl (omega (arith, lt)) | inr is ↦ inr (ap suc is) ]

            by_order : (m < k) ⊎ (m ≡ k) → ⊥
            by_order (inl lt) = both_ways _ l (lt-ltb m k lt)
            by_order (inr is) = both_ways _ e (eq-eqb m k is)

    by : (a b : Bool) → eqb m k ≡ a → ltb m k ≡ b → cond (eqb m k) w 0 + cond (ltb m k) w 0 ≡ cond (ltb m (suc k)) w 0
    by true true e l = absurd (omega (arith, eqb-true m k e, ltb-true m k l))
    by true false e l =
        let up : ltb m (suc k) ≡ true = lt-ltb m (suc k) (omega (arith, eqb-true m k e)) in
        omega (arith, ap {B = ℕ} (λ (c : Bool). cond c w 0) e, ap {B = ℕ} (λ (c : Bool). cond c w 0) l, ap {B = ℕ} (λ (c : Bool). cond c w 0) up)
    by false true e l =
        let up : ltb m (suc k) ≡ true = lt-ltb m (suc k) (omega (arith, ltb-true m k l)) in
        omega (arith, ap {B = ℕ} (λ (c : Bool). cond c w 0) e, ap {B = ℕ} (λ (c : Bool). cond c w 0) l, ap {B = ℕ} (λ (c : Bool). cond c w 0) up)
    by false false e l =
        let up : ltb m (suc k) ≡ false = false_from_ne_true _ (λ u. above (ltb-true m (suc k) u) e l) in
        omega (arith, ap {B = ℕ} (λ (c : Bool). cond c w 0) e, ap {B = ℕ} (λ (c : Bool). cond c w 0) l, ap {B = ℕ} (λ (c : Bool). cond c w 0) up)

module _ (r : Shape) (n : ℕ) (piece : ℕ → List ℕ) (v : Value) (s : Bool) (is : (k : ℕ) → k ≤ n → pointwise nat_eq (piece k) (body_of v) ≡ (s && eqb (length (body_of v)) k)) where
  step : (g t a b c : Bool) (w : ℕ) → cond a w 0 + cond b w 0 ≡ cond c w 0 → cond (g && (t && a)) w 0 + cond (g && (t && b)) w 0 ≡ cond (g && (t && c)) w 0
  step true true a b c w h = h
  step true false a b c w h = refl
  step false t a b c w h = refl

  nothing : (g t : Bool) (w : ℕ) → 0 ≡ cond (g && (t && false)) w 0
  nothing true true w = refl
  nothing true false w = refl
  nothing false t w = refl

  adds_by : (k w : ℕ) → k ≤ n + 1 → adds r piece k v w ≡ cond (nat_eq (shape_rank r) (shape_rank (shape_of v)) && (s && ltb (length (body_of v)) k)) w 0
  adds_by zero w le = nothing (nat_eq (shape_rank r) (shape_rank (shape_of v))) s w ∙ ap (λ (b : Bool). cond (nat_eq (shape_rank r) (shape_rank (shape_of v)) && (s && b)) w 0) (sym (never (length (body_of v))))
    where
      never : (m : ℕ) → ltb m 0 ≡ false
      never m = false_from_ne_true _ (λ u. absurd (omega (arith, ltb-true m 0 u)))
  adds_by (suc k) w le =
      ap (λ (b : Bool). cond (nat_eq (shape_rank r) (shape_rank (shape_of v)) && b) w 0 + adds r piece k v w) (is k (omega (arith, le)))
      ∙ ap (λ (m : ℕ). cond (nat_eq (shape_rank r) (shape_rank (shape_of v)) && (s && eqb (length (body_of v)) k)) w 0 + m) (adds_by k w (omega (arith, le)))
      ∙ step (nat_eq (shape_rank r) (shape_rank (shape_of v))) s (eqb (length (body_of v)) k) (ltb (length (body_of v)) k) (ltb (length (body_of v)) (suc k)) w (one_more (length (body_of v)) k w)

  pub adds_is : (w : ℕ) → (s ≡ true → length (body_of v) ≤ n) → adds r piece (n + 1) v w ≡ cond (nat_eq (shape_rank r) (shape_rank (shape_of v)) && s) w 0
  adds_is w fits = adds_by (n + 1) w (omega arith) ∙ ap (λ (b : Bool). cond (nat_eq (shape_rank r) (shape_rank (shape_of v)) && b) w 0) (whole s fits)
    where
      whole : (t : Bool) → (t ≡ true → length (body_of v) ≤ n) → (t && ltb (length (body_of v)) (n + 1)) ≡ t
      whole true f = lt-ltb (length (body_of v)) (n + 1) (omega (arith, f refl))
      whole false f = refl

-- A body is a prefix of a text only as the prefix of its own length.
front_piece : (t b : List ℕ) (k : ℕ) → k ≤ length t → pointwise nat_eq (take k t) b ≡ (starts_with nat_eq t b && eqb (length b) k)
front_piece t b k le =
    let d = starts_is nat_Decides t b (starts_with nat_eq t b) refl in
    agree (pointwise nat_eq (take k t) b) (starts_with nat_eq t b && eqb (length b) k)
    (λ h.
    let e : take k t ≡ b = same_text (take k t) b h in
    and_from _ _ (d.1 (drop k t) (sym (take-append-drop k t) ∙ ap (λ (u : List ℕ). u ++ drop k t) e)) (eq-eqb (length b) k (omega (arith, ap length e, length-take-le k t le))))
    (λ h.
    let p = and_parts (starts_with nat_eq t b) (eqb (length b) k) h in
    text_same (take k t) b (ap (take k) (d.0 p.0) ∙ take_at b (drop (length b) t) k (eqb-true (length b) k p.1)))

front_fits : (t b : List ℕ) → starts_with nat_eq t b ≡ true → length b ≤ length t
front_fits t b h = let e = (starts_is nat_Decides t b (starts_with nat_eq t b) refl).0 h in omega (arith, ap length e, length-append b (drop (length b) t))

end_piece : (t b : List ℕ) (k : ℕ) → k ≤ length t → pointwise nat_eq (drop (length t - k) t) b ≡ (ends_with nat_eq t b && eqb (length b) k)
end_piece t b k le =
    let d = ends_is nat_Decides t b (ends_with nat_eq t b) refl in
    agree (pointwise nat_eq (drop (length t - k) t) b) (ends_with nat_eq t b && eqb (length b) k)
    (λ h.
    let e : drop (length t - k) t ≡ b = same_text (drop (length t - k) t) b h in
    and_from _ _ (d.1 (take (length t - k) t) (sym (take-append-drop (length t - k) t) ∙ ap (λ (u : List ℕ). take (length t - k) t ++ u) e)) (eq-eqb (length b) k (omega (arith, ap length e, length-drop (length t - k) t))))
    (λ h.
    let p = and_parts (ends_with nat_eq t b) (eqb (length b) k) h in
    let same : length b ≡ k = eqb-true (length b) k p.1 in
    let cut : t ≡ take (length t - length b) t ++ b = d.0 p.0 in
    let at : length (take (length t - length b) t) ≡ length t - k = omega (arith, same, ap length cut, length-append (take (length t - length b) t) b) in
    text_same (drop (length t - k) t) b (ap (drop (length t - k)) cut ∙ drop_at (take (length t - length b) t) b (length t - k) at))

end_fits : (t b : List ℕ) → ends_with nat_eq t b ≡ true → length b ≤ length t
end_fits t b h = let e = (ends_is nat_Decides t b (ends_with nat_eq t b) refl).0 h in omega (arith, ap length e, length-append (take (length t - length b) t) b)

-- ---- each product, over all runs

pub by_fronts : (t : List ℕ) (v : Value) (w : ℕ) → adds shape.WithTrail (λ k. take k t) (length t + 1) v w ≡ cond (nat_eq 3 (shape_rank (shape_of v)) && starts_with nat_eq t (body_of v)) w 0
by_fronts t v w = adds_is shape.WithTrail (length t) (λ k. take k t) v (starts_with nat_eq t (body_of v)) (λ k le. front_piece t (body_of v) k le) w (front_fits t (body_of v))

pub by_ends : (t : List ℕ) (v : Value) (w : ℕ) → adds shape.WithLead (λ k. drop (length t - k) t) (length t + 1) v w ≡ cond (nat_eq 4 (shape_rank (shape_of v)) && ends_with nat_eq t (body_of v)) w 0
by_ends t v w = adds_is shape.WithLead (length t) (λ k. drop (length t - k) t) v (ends_with nat_eq t (body_of v)) (λ k le. end_piece t (body_of v) k le) w (end_fits t (body_of v))

back : (a b : List ℕ) → pointwise nat_eq a b ≡ pointwise nat_eq b a
back a b = agree (pointwise nat_eq a b) (pointwise nat_eq b a) (λ h. text_same b a (sym (same_text a b h))) (λ h. text_same a b (sym (same_text b a h)))

-- the sum of what a product adds in the five kinds of runs
abbrev over_runs : List ℕ → Value → ℕ → ℕ
over_runs t v w =
    cond (in_run end.Front shape.Any [] false v) w 0 + cond (in_run end.Front shape.Plain t true v) w 0 + cond (in_run end.Front shape.WithBoth [] false v) w 0
    + (cond (nat_eq 3 (shape_rank (shape_of v)) && starts_with nat_eq t (body_of v)) w 0 + cond (nat_eq 4 (shape_rank (shape_of v)) && ends_with nat_eq t (body_of v)) w 0)

plain_text : (x y : Bool) → shape_by x y ≡ shape.Plain → (not x || not y) ≡ false
plain_text true true h = refl
plain_text true false h = absurd (omega (arith, ap shape_rank h))
plain_text false true h = absurd (omega (arith, ap shape_rank h))
plain_text false false h = absurd (omega (arith, ap shape_rank h))

near_plain_text : (p t : Parts) → shape_of (value.Text t) ≡ shape.Plain → near (value.Text p) (value.Text t) ≡ near_plain p t.body
near_plain_text p t h = ap (λ (b : Bool). not b && near_plain p t.body) (plain_text (is_nothing t.lead) (is_nothing t.trail) h)

text_runs : (x y : Bool) (b t : List ℕ) (w : ℕ)
    → cond (nat_eq 0 (shape_rank (shape_by x y)) && starts_with nat_eq b []) w 0 + cond (nat_eq 2 (shape_rank (shape_by x y)) && pointwise nat_eq t b) w 0 + cond (nat_eq 5 (shape_rank (shape_by x y)) && starts_with nat_eq b []) w 0
    + (cond (nat_eq 3 (shape_rank (shape_by x y)) && starts_with nat_eq t b) w 0 + cond (nat_eq 4 (shape_rank (shape_by x y)) && ends_with nat_eq t b) w 0)
    ≡ cond (near_by x y b t) w 0
text_runs true true b t w = let e : cond (pointwise nat_eq t b) w 0 ≡ cond (pointwise nat_eq b t) w 0 = ap (λ (c : Bool). cond c w 0) (back t b) in omega (arith, e)
text_runs true false b t w = omega arith
text_runs false true b t w = omega arith
text_runs false false b t w = omega arith

pub over_is : (t : Parts) (v : Value) (w : ℕ) → lower_value (value.Text t) ≡ value.Text t → lower_value v ≡ v → shape_of (value.Text t) ≡ shape.Plain → over_runs t.body v w ≡ cond (near v (value.Text t)) w 0
over_is t value.Any w low h plain = omega arith
over_is t value.Na w low h plain = refl
over_is t (value.Text p) w low h plain =
    text_runs (is_nothing p.lead) (is_nothing p.trail) p.body t.body w
    ∙ ap (λ (b : Bool). cond b w 0) (sym (near_plain_is p t.body (lower_body (value.Text p) h) (lower_body (value.Text t) low)))
    ∙ ap (λ (b : Bool). cond b w 0) (sym (near_plain_text p t plain))

-- ---- all products

module _ (values : ProductList) (ns : List ℕ) (t : Parts) (lower : (n : ℕ) → lower_value (product_value_at values n) ≡ product_value_at values n) (low : lower_value (value.Text t) ≡ value.Text t) (plain : shape_of (value.Text t) ≡ shape.Plain) where
  abbrev at_ : ℕ → Value
  at_ n = product_value_at values n

  pub plain_same : (any same both found : List ℕ) (fronts ends : ℕ)
      → SameElements (filter (λ n. in_run end.Front shape.Any [] false (product_value_at values n)) ns) any
      → SameElements (filter (λ n. in_run end.Front shape.Plain t.body true (product_value_at values n)) ns) same
      → SameElements (filter (λ n. in_run end.Front shape.WithBoth [] false (product_value_at values n)) ns) both
      → SameElements (shape_runs values ns shape.WithTrail (λ k. take k t.body) (length t.body + 1)) (shape_runs values ns shape.WithTrail (λ k. take k t.body) fronts)
      → SameElements (shape_runs values ns shape.WithLead (λ k. drop (length t.body - k) t.body) (length t.body + 1)) (shape_runs values ns shape.WithLead (λ k. drop (length t.body - k) t.body) ends)
      → SameElements (any ++ same ++ both ++ all_runs values ns t.body fronts ends) found
      → SameElements (filter (λ n. near (product_value_at values n) (value.Text t)) ns) found
  plain_same any same both found fronts ends a s b by_trail by_lead whole f =
      let front = λ (k : ℕ). take k t.body in
      let end_ = λ (k : ℕ). drop (length t.body - k) t.body in
      let n = length t.body + 1 in
      let runs3 = shape_runs values ns shape.WithTrail front fronts in
      let runs4 = shape_runs values ns shape.WithLead end_ ends in
      let fa = λ (k : ℕ). cond (in_run end.Front shape.Any [] false (at_ k)) (f k) 0 in
      let fs = λ (k : ℕ). cond (in_run end.Front shape.Plain t.body true (at_ k)) (f k) 0 in
      let fb = λ (k : ℕ). cond (in_run end.Front shape.WithBoth [] false (at_ k)) (f k) 0 in
      let f3 = λ (k : ℕ). adds shape.WithTrail front n (at_ k) (f k) in
      let f4 = λ (k : ℕ). adds shape.WithLead end_ n (at_ k) (f k) in
      sum_filter f (λ k. near (at_ k) (value.Text t)) ns
      ∙ sum_agree (λ k. cond (near (at_ k) (value.Text t)) (f k) 0) (λ k. fa k + fs k + fb k + (f3 k + f4 k)) (λ k. each f k) ns
      ∙ omega (
        arith,
        sum_both (λ k. fa k + fs k + fb k) (λ k. f3 k + f4 k) ns,
        sum_both (λ k. fa k + fs k) fb ns,
        sum_both fa fs ns,
        sum_both f3 f4 ns,
        sum_filter f (λ k. in_run end.Front shape.Any [] false (at_ k)) ns,
        sum_filter f (λ k. in_run end.Front shape.Plain t.body true (at_ k)) ns,
        sum_filter f (λ k. in_run end.Front shape.WithBoth [] false (at_ k)) ns,
        runs_sum values ns shape.WithTrail front f n,
        runs_sum values ns shape.WithLead end_ f n,
        a f,
        s f,
        b f,
        by_trail f,
        by_lead f,
        whole f,
        sum_by-append f (any ++ same ++ both) (runs3 ++ runs4),
        sum_by-append f (any ++ same) both,
        sum_by-append f any same,
        sum_by-append f runs3 runs4,
      )
    where
      each : (f : ℕ → ℕ) (k : ℕ) → cond (near (at_ k) (value.Text t)) (f k) 0
          ≡ cond (in_run end.Front shape.Any [] false (at_ k)) (f k) 0 + cond (in_run end.Front shape.Plain t.body true (at_ k)) (f k) 0 + cond (in_run end.Front shape.WithBoth [] false (at_ k)) (f k) 0
          + (adds shape.WithTrail (λ j. take j t.body) (length t.body + 1) (at_ k) (f k) + adds shape.WithLead (λ j. drop (length t.body - j) t.body) (length t.body + 1) (at_ k) (f k))
      each f k =
          omega (arith, over_is t (at_ k) (f k) low (lower k) plain, by_fronts t.body (at_ k) (f k), by_ends t.body (at_ k) (f k))

near_na : (v : Value) (w : ℕ) → cond (in_run end.Front shape.Any [] false v) w 0 + cond (in_run end.Front shape.Na [] false v) w 0 ≡ cond (near v value.Na) w 0
near_na value.Any w = omega arith
near_na value.Na w = omega arith
near_na (value.Text p) w = by (is_nothing p.lead) (is_nothing p.trail)
  where
    by : (x y : Bool) → cond (nat_eq 0 (shape_rank (shape_by x y)) && starts_with nat_eq p.body []) w 0 + cond (nat_eq 1 (shape_rank (shape_by x y)) && starts_with nat_eq p.body []) w 0 ≡ 0
    by true true = refl
    by true false = refl
    by false true = refl
    by false false = refl

near_any : (v : Value) → near v value.Any ≡ in_run end.Front shape.Any [] false v
near_any value.Any = refl
near_any value.Na = refl
near_any (value.Text p) = by (is_nothing p.lead) (is_nothing p.trail)
  where
    by : (x y : Bool) → false ≡ (nat_eq 0 (shape_rank (shape_by x y)) && starts_with nat_eq p.body [])
    by true true = refl
    by true false = refl
    by false true = refl
    by false false = refl

special : (x y : Bool) → (shape_by x y ≡ shape.Plain → ⊥) → (not x || not y) ≡ true
special true true h = absurd (h refl)
special true false h = refl
special false y h = refl

near_special : (t : Parts) (v : Value) → (shape_of (value.Text t) ≡ shape.Plain → ⊥) → near v (value.Text t) ≡ in_run end.Front shape.Any [] false v
near_special t value.Any h = refl
near_special t value.Na h = refl
near_special t (value.Text p) h = ap (λ (b : Bool). not b && near_plain p t.body) (special (is_nothing t.lead) (is_nothing t.trail) h) ∙ near_any (value.Text p)

module _ (values : ProductList) (ns : List ℕ) where
  -- If one run (or two) has the numbers that pass a test, a walk over this run (or both) has these numbers.
  pub one_run : (p : ℕ → Bool) (xs found : List ℕ) → SameElements (filter p ns) xs → SameElements (xs ++ [] ++ [] ++ all_runs values ns [] 0 0) found → SameElements (filter p ns) found
  one_run p xs found a whole f = a f ∙ omega (arith, whole f, sum_by-append f (xs ++ [] ++ []) [], sum_by-append f (xs ++ []) [], sum_by-append f xs [])

  pub any_run : (q : Value) (xs found : List ℕ) → ((v : Value) → near v q ≡ in_run end.Front shape.Any [] false v)
      → SameElements (filter (λ n. in_run end.Front shape.Any [] false (product_value_at values n)) ns) xs → SameElements (xs ++ [] ++ [] ++ all_runs values ns [] 0 0) found
      → SameElements (filter (λ n. near (product_value_at values n) q) ns) found
  any_run q xs found h a whole = one_run (λ n. near (product_value_at values n) q) xs found (tests_agree (λ n. near (product_value_at values n) q) (λ n. in_run end.Front shape.Any [] false (product_value_at values n)) (λ n. h (product_value_at values n)) ns xs a) whole

  pub any_asked : (q : Value) → q ≡ value.Any → (v : Value) → near v q ≡ in_run end.Front shape.Any [] false v
  any_asked q e v = ap (near v) e ∙ near_any v

  pub special_asked : (q : Value) (t : Parts) → q ≡ value.Text t → (shape_of (value.Text t) ≡ shape.Plain → ⊥) → (v : Value) → near v q ≡ in_run end.Front shape.Any [] false v
  special_asked q t e h v = ap (near v) e ∙ near_special t v h

  pub na_asked : (q : Value) (xs ys found : List ℕ) → q ≡ value.Na
      → SameElements (filter (λ n. in_run end.Front shape.Any [] false (product_value_at values n)) ns) xs → SameElements (filter (λ n. in_run end.Front shape.Na [] false (product_value_at values n)) ns) ys
      → SameElements (xs ++ ys ++ [] ++ all_runs values ns [] 0 0) found
      → SameElements (filter (λ n. near (product_value_at values n) q) ns) found
  na_asked q xs ys found e a b whole f =
      let fa = λ (k : ℕ). cond (in_run end.Front shape.Any [] false (product_value_at values k)) (f k) 0 in
      let fb = λ (k : ℕ). cond (in_run end.Front shape.Na [] false (product_value_at values k)) (f k) 0 in
      sum_filter f (λ k. near (product_value_at values k) q) ns
      ∙ sum_agree (λ k. cond (near (product_value_at values k) q) (f k) 0) (λ k. fa k + fb k) (λ k. ap {B = ℕ} (λ (v : Value). cond (near (product_value_at values k) v) (f k) 0) e ∙ sym (near_na (product_value_at values k) (f k))) ns
      ∙ omega (
        arith,
        sum_both fa fb ns,
        sum_filter f (λ k. in_run end.Front shape.Any [] false (product_value_at values k)) ns,
        sum_filter f (λ k. in_run end.Front shape.Na [] false (product_value_at values k)) ns,
        a f,
        b f,
        whole f,
        sum_by-append f (xs ++ ys ++ []) [],
        sum_by-append f (xs ++ ys) [],
        sum_by-append f xs ys,
      )
