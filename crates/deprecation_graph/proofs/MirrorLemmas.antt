-- Lemmas: adding or removing an edge in both directions keeps the lists mirrored.
use Rattle.std.proofs.Common.{◌≡◌, ◌≢◌, ◌⊎◌, ℕ, zero, suc, ◌+◌, ◌<◌, ◌≤◌, eqb, Bool, true, false, cond, List, [], ◌∷◌, ◌++◌, length, get_or, refl, sym, ap, subst, ◌∙◌, inl, inr, arith, take, append_assoc, slice_get, slice_set, Some, None}
use Rattle.std.specs.List.{All, Contains}
use Rattle.std.proofs.lemmas.Bool.{cases_eq, both_ways, eq-eqb, ne_eqb, eqb-true}
use Rattle.std.proofs.lemmas.List.{get_or-set_same, get_or-set_other, length-set, take_more}
use Rattle.std.proofs.lemmas.Option.{same_Some}
use Rattle.deprecation_graph.proofs.Rising.{Contains-cases, Contains-rest}
use Rattle.deprecation_graph.specs.Indexed.{list_of_node, without_number}
use Rattle.deprecation_graph.specs.Mirror.{node_times, IsMirror, Loses}

times-push : (v : ℕ) (xs : List ℕ) (y : ℕ) → node_times v (xs ++ y ∷ []) ≡ node_times v xs + cond (eqb y v) 1 0
times-push v [] y = go (eqb y v)
  where
    go : (b : Bool) → cond b (0 + 1) 0 ≡ 0 + cond b 1 0
    go true = refl
    go false = refl
times-push v (x ∷ xs) y = go (eqb x v) (times-push v xs y)
  where
    go : (b : Bool) → node_times v (xs ++ y ∷ []) ≡ node_times v xs + cond (eqb y v) 1 0 → cond b (node_times v (xs ++ y ∷ []) + 1) (node_times v (xs ++ y ∷ [])) ≡ cond b (node_times v xs + 1) (node_times v xs) + cond (eqb y v) 1 0
    go true r = omega (arith, r)
    go false r = r

times-Contains : (v : ℕ) (xs : List ℕ) → Contains xs v → 1 ≤ node_times v xs
times-Contains v [] c = absurd (omega (arith, c.1))
times-Contains v (x ∷ xs) c = go (eqb x v) refl (Contains-cases v x xs c) (times-Contains v xs)
  where
    go : (b : Bool) → eqb x v ≡ b → (v ≡ x) ⊎ Contains xs v → (Contains xs v → 1 ≤ node_times v xs) → 1 ≤ cond b (node_times v xs + 1) (node_times v xs)
    go true e d r = omega arith
    go false e (inl same) r = absurd (both_ways (eqb x v) e (eq-eqb x v (sym same)))
    go false e (inr d) r = r d

pub Contains-times : (v : ℕ) (xs : List ℕ) → 1 ≤ node_times v xs → Contains xs v
Contains-times v [] le = absurd (omega arith)
Contains-times v (x ∷ xs) le = go (eqb x v) refl (Contains-times v xs) le
  where
    go : (b : Bool) → eqb x v ≡ b → (1 ≤ node_times v xs → Contains xs v) → 1 ≤ cond b (node_times v xs + 1) (node_times v xs) → Contains (x ∷ xs) v
    go true e r l = (0, omega arith, eqb-true x v e)
    go false e r l = Contains-rest v x xs (r l)

pub times-without : (v w : ℕ) (xs : List ℕ) → Contains xs v → node_times w (without_number v xs) + cond (eqb v w) 1 0 ≡ node_times w xs
times-without v w [] c = absurd (omega (arith, c.1))
times-without v w (x ∷ xs) c = go (eqb x v) refl (Contains-cases v x xs c) (times-without v w xs)
  where
    more : (b : Bool) → node_times w (without_number v xs) + cond (eqb v w) 1 0 ≡ node_times w xs → cond b (node_times w (without_number v xs) + 1) (node_times w (without_number v xs)) + cond (eqb v w) 1 0 ≡ cond b (node_times w xs + 1) (node_times w xs)
    more true r = omega (arith, r)
    more false r = r

    here : (b : Bool) → node_times w xs + cond b 1 0 ≡ cond b (node_times w xs + 1) (node_times w xs)
    here true = refl
    here false = omega arith

    go : (b : Bool) → eqb x v ≡ b → (v ≡ x) ⊎ Contains xs v → (Contains xs v → node_times w (without_number v xs) + cond (eqb v w) 1 0 ≡ node_times w xs) → node_times w (cond b xs (x ∷ without_number v xs)) + cond (eqb v w) 1 0 ≡ node_times w (x ∷ xs)
    go true e d r = ap (λ (z : ℕ). node_times w xs + cond (eqb z w) 1 0) (sym (eqb-true x v e)) ∙ here (eqb x w)
    go false e (inl same) r = absurd (both_ways (eqb x v) e (eq-eqb x v (sym same)))
    go false e (inr d) r = more (eqb x w) (r d)

-- ---- an edge is added or removed

pub mirror_link : (next before : List (List ℕ)) (x y : ℕ) → IsMirror next before → x < length next → y < length before → IsMirror (slice_set next x (list_of_node next x ++ y ∷ [])) (slice_set before y (list_of_node before y ++ x ∷ []))
mirror_link next before x y m ltx lty a b = go (cases_eq a x) (cases_eq b y)
  where
    go : (a ≡ x) ⊎ (a ≢ x) → (b ≡ y) ⊎ (b ≢ y) → node_times a (list_of_node (slice_set before y (list_of_node before y ++ x ∷ [])) b) ≡ node_times b (list_of_node (slice_set next x (list_of_node next x ++ y ∷ [])) a)
    go (inl p) (inl q) =
        let l : list_of_node (slice_set before y (list_of_node before y ++ x ∷ [])) b ≡ list_of_node before y ++ x ∷ [] = ap (list_of_node (slice_set before y (list_of_node before y ++ x ∷ []))) q ∙ get_or-set_same before y (list_of_node before y ++ x ∷ []) [] lty in
        let r : list_of_node (slice_set next x (list_of_node next x ++ y ∷ [])) a ≡ list_of_node next x ++ y ∷ [] = ap (list_of_node (slice_set next x (list_of_node next x ++ y ∷ []))) p ∙ get_or-set_same next x (list_of_node next x ++ y ∷ []) [] ltx in
        let same : node_times x (list_of_node before y) ≡ node_times y (list_of_node next x) = m x y in
        ap (node_times a) l ∙ times-push a (list_of_node before y) x ∙ both same ∙ sym (ap (node_times b) r ∙ times-push b (list_of_node next x) y)
      where
        both : node_times x (list_of_node before y) ≡ node_times y (list_of_node next x) → node_times a (list_of_node before y) + cond (eqb x a) 1 0 ≡ node_times b (list_of_node next x) + cond (eqb y b) 1 0
        both same =
            let one : cond (eqb x a) 1 0 ≡ cond (eqb y b) 1 0 = ap {B = ℕ} (λ (t : Bool). cond t 1 0) (eq-eqb x a (sym p) ∙ sym (eq-eqb y b (sym q))) in
            let left : node_times a (list_of_node before y) ≡ node_times x (list_of_node before y) = ap (λ (z : ℕ). node_times z (list_of_node before y)) p in
            let right : node_times b (list_of_node next x) ≡ node_times y (list_of_node next x) = ap (λ (z : ℕ). node_times z (list_of_node next x)) q in
            omega (arith, one, left, right, same)
    go (inl p) (inr q) =
        let l : list_of_node (slice_set before y (list_of_node before y ++ x ∷ [])) b ≡ list_of_node before b = get_or-set_other before y b (list_of_node before y ++ x ∷ []) [] q in
        let r : list_of_node (slice_set next x (list_of_node next x ++ y ∷ [])) a ≡ list_of_node next x ++ y ∷ [] = ap (list_of_node (slice_set next x (list_of_node next x ++ y ∷ []))) p ∙ get_or-set_same next x (list_of_node next x ++ y ∷ []) [] ltx in
        let none : cond (eqb y b) 1 0 ≡ 0 = ap {B = ℕ} (λ (t : Bool). cond t 1 0) (ne_eqb y b (λ e. q (sym e))) in
        let here : node_times b (list_of_node next a) ≡ node_times b (list_of_node next x) = ap (λ (z : ℕ). node_times b (list_of_node next z)) p in
        ap (node_times a) l ∙ m a b ∙ sym (ap (node_times b) r ∙ times-push b (list_of_node next x) y ∙ omega (arith, none, here))
    go (inr p) (inl q) =
        let l : list_of_node (slice_set before y (list_of_node before y ++ x ∷ [])) b ≡ list_of_node before y ++ x ∷ [] = ap (list_of_node (slice_set before y (list_of_node before y ++ x ∷ []))) q ∙ get_or-set_same before y (list_of_node before y ++ x ∷ []) [] lty in
        let r : list_of_node (slice_set next x (list_of_node next x ++ y ∷ [])) a ≡ list_of_node next a = get_or-set_other next x a (list_of_node next x ++ y ∷ []) [] p in
        let none : cond (eqb x a) 1 0 ≡ 0 = ap {B = ℕ} (λ (t : Bool). cond t 1 0) (ne_eqb x a (λ e. p (sym e))) in
        let here : node_times a (list_of_node before b) ≡ node_times a (list_of_node before y) = ap (λ (z : ℕ). node_times a (list_of_node before z)) q in
        ap (node_times a) l ∙ times-push a (list_of_node before y) x ∙ omega (arith, none, here) ∙ m a b ∙ sym (ap (node_times b) r)
    go (inr p) (inr q) =
        ap (node_times a) (get_or-set_other before y b (list_of_node before y ++ x ∷ []) [] q) ∙ m a b ∙ sym (ap (node_times b) (get_or-set_other next x a (list_of_node next x ++ y ∷ []) [] p))

pub mirror_other_side : (next before : List (List ℕ)) (x y : ℕ) → IsMirror next before → Contains (list_of_node next x) y → Contains (list_of_node before y) x
mirror_other_side next before x y m c = Contains-times x (list_of_node before y) (omega (arith, m x y, times-Contains y (list_of_node next x) c))

pub mirror_this_side : (next before : List (List ℕ)) (x y : ℕ) → IsMirror next before → Contains (list_of_node before y) x → Contains (list_of_node next x) y
mirror_this_side next before x y m c = Contains-times y (list_of_node next x) (omega (arith, m x y, times-Contains x (list_of_node before y) c))

pub mirror_unlink : (next before before' : List (List ℕ)) (x y : ℕ) → IsMirror next before → x < length next → Contains (list_of_node next x) y → Loses before before' y x → IsMirror (slice_set next x (without_number y (list_of_node next x))) before'
mirror_unlink next before before' x y m ltx c u a b = go (cases_eq a x) (cases_eq b y)
  where
    go : (a ≡ x) ⊎ (a ≢ x) → (b ≡ y) ⊎ (b ≢ y) → node_times a (list_of_node before' b) ≡ node_times b (list_of_node (slice_set next x (without_number y (list_of_node next x))) a)
    go (inl p) (inl q) =
        let l : node_times a (list_of_node before' b) ≡ node_times a (list_of_node before' y) = ap (λ (z : ℕ). node_times a (list_of_node before' z)) q in
        let r : list_of_node (slice_set next x (without_number y (list_of_node next x))) a ≡ without_number y (list_of_node next x) = ap (list_of_node (slice_set next x (without_number y (list_of_node next x)))) p ∙ get_or-set_same next x (without_number y (list_of_node next x)) [] ltx in
        let one : cond (eqb x a) 1 0 ≡ cond (eqb y b) 1 0 = ap {B = ℕ} (λ (t : Bool). cond t 1 0) (eq-eqb x a (sym p) ∙ sym (eq-eqb y b (sym q))) in
        let left : node_times a (list_of_node before y) ≡ node_times x (list_of_node before y) = ap (λ (z : ℕ). node_times z (list_of_node before y)) p in
        let right : node_times b (list_of_node next x) ≡ node_times y (list_of_node next x) = ap (λ (z : ℕ). node_times z (list_of_node next x)) q in
        l ∙ omega (arith, one, left, right, m x y, u.less a, times-without y b (list_of_node next x) c) ∙ sym (ap (node_times b) r)
    go (inl p) (inr q) =
        let r : list_of_node (slice_set next x (without_number y (list_of_node next x))) a ≡ without_number y (list_of_node next x) = ap (list_of_node (slice_set next x (without_number y (list_of_node next x)))) p ∙ get_or-set_same next x (without_number y (list_of_node next x)) [] ltx in
        let none : cond (eqb y b) 1 0 ≡ 0 = ap {B = ℕ} (λ (t : Bool). cond t 1 0) (ne_eqb y b (λ e. q (sym e))) in
        let here : node_times b (list_of_node next a) ≡ node_times b (list_of_node next x) = ap (λ (z : ℕ). node_times b (list_of_node next z)) p in
        ap (node_times a) (u.others b q) ∙ m a b ∙ omega (arith, none, here, times-without y b (list_of_node next x) c) ∙ sym (ap (node_times b) r)
    go (inr p) (inl q) =
        let l : node_times a (list_of_node before' b) ≡ node_times a (list_of_node before' y) = ap (λ (z : ℕ). node_times a (list_of_node before' z)) q in
        let r : list_of_node (slice_set next x (without_number y (list_of_node next x))) a ≡ list_of_node next a = get_or-set_other next x a (without_number y (list_of_node next x)) [] p in
        let none : cond (eqb x a) 1 0 ≡ 0 = ap {B = ℕ} (λ (t : Bool). cond t 1 0) (ne_eqb x a (λ e. p (sym e))) in
        let here : node_times a (list_of_node before b) ≡ node_times a (list_of_node before y) = ap (λ (z : ℕ). node_times a (list_of_node before z)) q in
        l ∙ omega (arith, none, here, m a b, u.less a) ∙ sym (ap (node_times b) r)
    go (inr p) (inr q) =
        ap (node_times a) (u.others b q) ∙ m a b ∙ sym (ap (node_times b) (get_or-set_other next x a (without_number y (list_of_node next x)) [] p))

pub mirror_moved : (next before next' before' : List (List ℕ)) → next' ≡ next → before' ≡ before → IsMirror next before → IsMirror next' before'
mirror_moved next before next' before' e f m = subst (λ (ls : List (List ℕ)). IsMirror ls before') (sym e) (subst (IsMirror next) (sym f) m)

-- ---- all edges of a number are added or removed, one by one

-- removing the first number of a list gives the rest of the list
pub without-first : (x : ℕ) (xs : List ℕ) → without_number x (x ∷ xs) ≡ xs
without-first x xs = ap (λ (b : Bool). cond b xs (x ∷ without_number x xs)) (eq-eqb x x refl)

pub set-set : (ls : List (List ℕ)) (i : ℕ) (xs ys : List ℕ) → slice_set (slice_set ls i xs) i ys ≡ slice_set ls i ys
set-set [] i xs ys = refl
set-set (l ∷ ls) zero xs ys = refl
set-set (l ∷ ls) (suc i) xs ys = ap (λ (ks : List (List ℕ)). l ∷ ks) (set-set ls i xs ys)

pub list_of-set : (ls : List (List ℕ)) (i : ℕ) (xs : List ℕ) → i < length ls → list_of_node (slice_set ls i xs) i ≡ xs
list_of-set ls i xs lt = get_or-set_same ls i xs [] lt

-- the step of the loop that removes all edges
pub unlink_step : (initial now new : List (List ℕ)) (i x : ℕ) → i < length initial → slice_get (list_of_node now i) 0 ≡ Some x → now ≡ slice_set initial i (list_of_node now i) → new ≡ slice_set now i (without_number x (list_of_node now i)) → (new ≡ slice_set initial i (list_of_node new i)) × (x ∷ list_of_node new i ≡ list_of_node now i)
unlink_step initial now new i x lt e same is =
    let at : list_of_node new i ≡ without_number x (list_of_node now i) = ap (λ (ls : List (List ℕ)). list_of_node ls i) is ∙ list_of-set now i (without_number x (list_of_node now i)) (omega (arith, ap length same, length-set initial i (list_of_node now i))) in (
      is ∙ ap (λ (ls : List (List ℕ)). slice_set ls i (without_number x (list_of_node now i))) same ∙ set-set initial i (list_of_node now i) (without_number x (list_of_node now i)) ∙ ap (slice_set initial i) (sym at),
      ap (λ (xs : List ℕ). x ∷ xs) at ∙ rest (list_of_node now i) e,
    )
  where
    rest : (xs : List ℕ) → slice_get xs 0 ≡ Some x → x ∷ without_number x xs ≡ xs
    rest [] f = absurd cc
    rest (y ∷ ys) f = let same' : y ≡ x = same_Some y x f in subst (λ (z : ℕ). x ∷ without_number x (z ∷ ys) ≡ z ∷ ys) (sym same') (ap (λ (zs : List ℕ). x ∷ zs) (without-first x ys))

-- the step of the loop that adds all edges
pub link_step : (initial now new : List (List ℕ)) (i k d : ℕ) (all : List ℕ) → i < length initial → k < length all → now ≡ slice_set initial i (list_of_node initial i ++ take k all) → new ≡ slice_set now i (list_of_node now i ++ get_or all k d ∷ []) → new ≡ slice_set initial i (list_of_node initial i ++ take (k + 1) all)
link_step initial now new i k d all lt within same is =
    let at : list_of_node now i ≡ list_of_node initial i ++ take k all = ap (λ (ls : List (List ℕ)). list_of_node ls i) same ∙ list_of-set initial i (list_of_node initial i ++ take k all) lt in
    is
    ∙ ap (λ (xs : List ℕ). slice_set now i (xs ++ get_or all k d ∷ [])) at
    ∙ ap (λ (ls : List (List ℕ)). slice_set ls i ((list_of_node initial i ++ take k all) ++ get_or all k d ∷ [])) same
    ∙ set-set initial i (list_of_node initial i ++ take k all) ((list_of_node initial i ++ take k all) ++ get_or all k d ∷ [])
    ∙ ap (slice_set initial i) (append_assoc (list_of_node initial i) (take k all) (get_or all k d ∷ []) ∙ ap (λ (xs : List ℕ). list_of_node initial i ++ xs) (sym (take_more all k d within)))

pub nil_from_first : (xs : List ℕ) → None ≡ slice_get xs 0 → xs ≡ []
nil_from_first [] e = refl
nil_from_first (x ∷ xs) e = absurd cc

pub All-rest : (n x : ℕ) (xs ys : List ℕ) → x ∷ ys ≡ xs → All (λ z. z < n) xs → All (λ z. z < n) ys
All-rest n x xs ys e h = λ k d lt. (subst (All (λ z. z < n)) (sym e) h) (suc k) d (omega arith)

-- ---- the number of slots that the lists take in a pool

length-without : (v : ℕ) (xs : List ℕ) → Contains xs v → length (without_number v xs) + 1 ≡ length xs
length-without v [] c = absurd (omega (arith, c.1))
length-without v (x ∷ xs) c = go (eqb x v) refl (Contains-cases v x xs c) (length-without v xs)
  where
    go : (b : Bool) → eqb x v ≡ b → (v ≡ x) ⊎ Contains xs v → (Contains xs v → length (without_number v xs) + 1 ≡ length xs) → length (cond b xs (x ∷ without_number v xs)) + 1 ≡ length (x ∷ xs)
    go true e d r = omega arith
    go false e (inl same) r = absurd (both_ways (eqb x v) e (eq-eqb x v (sym same)))
    go false e (inr d) r = omega (arith, r d)

-- ---- one list loses a number

pub loses_set : (old new : List (List ℕ)) (i value : ℕ) (ys : List ℕ) → new ≡ slice_set old i ys → i < length old → ((v : ℕ) → node_times v ys + cond (eqb value v) 1 0 ≡ node_times v (list_of_node old i)) → Loses old new i value
loses_set old new i value ys e lt less = record {
  count = ap length e ∙ length-set old i ys;
  others = λ j ne. ap (λ (ls : List (List ℕ)). list_of_node ls j) e ∙ get_or-set_other old i j ys [] ne;
  less = λ v. ap (λ (ls : List (List ℕ)). node_times v (list_of_node ls i) + cond (eqb value v) 1 0) e ∙ ap (λ (xs : List ℕ). node_times v xs + cond (eqb value v) 1 0) (list_of-set old i ys lt) ∙ less v;
}

pub loses_first : (old new : List (List ℕ)) (i value : ℕ) → new ≡ slice_set old i (without_number value (list_of_node old i)) → i < length old → Contains (list_of_node old i) value → Loses old new i value
loses_first old new i value e lt c = loses_set old new i value (without_number value (list_of_node old i)) e lt (λ v. times-without value v (list_of_node old i) c)
