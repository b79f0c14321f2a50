-- Lemmas: a search by scans of one vector finds exactly the numbers to which paths lead.
use Rattle.std.proofs.Common.{◌≡◌, ◌⊎◌, ℕ, ◌+◌, ◌<◌, ◌≤◌, Bool, true, false, cond, eqb, List, [], ◌∷◌, ◌++◌, length, take, get_or, refl, sym, ap, subst, ◌∙◌, inl, inr, arith, eq-eqb, Some}
use Rattle.std.specs.List.{Contains, IsDistinct, list_any}
use Rattle.std.specs.List.Sorted.{IsPermutation, IsSorted}
use Rattle.std.specs.Ordering.{nat_cmp}
use Rattle.std.specs.Cmp.{nat_eq_equiv}
use Rattle.std.proofs.lemmas.Bool.{cases_Bool, cases_lt, both_ways, eqb-true}
use Rattle.std.proofs.lemmas.List.{take_more, length_push, get_or_append_left}
use Rattle.std.proofs.lemmas.List.Elements.{Contains-append_left, Contains-append_right, Contains-append_cases, Contains-push, Contains-push_cases, Contains-get_or}
use Rattle.std.proofs.lemmas.List.Sorted.{Contains-permutation, IsPermutation-sym, IsNonDecreasingBy-from_sort}
use Rattle.std.proofs.lemmas.Map.Keys.{IsDistinct-push, IsDistinct-IsPermutation, IsStrictlyIncreasing-from_distinct, IsDistinct-from_apart}
use Rattle.std.proofs.lemmas.Option.{slice_get-get_or}
use Rattle.deprecation_graph.specs.Paths.{HasEdge, Leads, IsClosed}
use Rattle.deprecation_graph.specs.Chains.{IsChain}
use Rattle.deprecation_graph.specs.Searches.{with_number, AddsNumber}
use Rattle.deprecation_graph.proofs.Rising.{is_in, Contains-is_in, Contains-cases, Contains-any, any-Contains}
use Rattle.deprecation_graph.proofs.PathLemmas.{Leads-self, Leads-then, Leads-forth, Leads-below}

-- ---- adding numbers

only_one : (x y : ℕ) → Contains (x ∷ []) y → x ≡ y
only_one x y c = elim (Contains-cases y x [] c) [ inl same ↦ sym same | inr d ↦ absurd (omega (arith, d.1)) ]

absent : (x : ℕ) (xs : List ℕ) → list_any (λ y. eqb y x) xs ≡ false → is_in x xs ≡ false
absent x xs e = elim (cases_Bool (is_in x xs)) [
  | inl t ↦ absurd (both_ways (list_any (λ y. eqb y x) xs) e (any-Contains x xs (Contains-is_in x xs t)))
  | inr f ↦ f
]

pub one_added : (found : List ℕ) (x : ℕ) → AddsNumber found (with_number found x) (x ∷ [])
one_added found x = go (list_any (λ y. eqb y x) found) refl
  where
    go : (b : Bool) → list_any (λ y. eqb y x) found ≡ b → AddsNumber found (cond b found (found ++ x ∷ [])) (x ∷ [])
    go true e = record {
      longer = omega arith;
      prefix = λ k d lt. refl;
      visited = λ y c. subst (Contains found) (only_one x y c) (Contains-any x found e);
      only = λ y c. inl c;
      apart = λ h. h;
    }
    go false e = record {
      longer = omega (arith, length_push found x);
      prefix = λ k d lt. get_or_append_left found (x ∷ []) d k lt;
      visited = λ y c. subst (Contains (found ++ x ∷ [])) (only_one x y c) (Contains-push found x);
      only = λ y c. elim (Contains-push_cases found x y c) [ inl d ↦ inl d | inr same ↦ inr (0, omega arith, same) ];
      apart = λ h. IsDistinct-push nat_eq_equiv found x h (absent x found e);
    }

pub Adds-none : (found : List ℕ) → AddsNumber found found []
Adds-none found = record {
  longer = omega arith;
  prefix = λ k d lt. refl;
  visited = λ x c. absurd (omega (arith, c.1));
  only = λ x c. inl c;
  apart = λ h. h;
}

pub Adds-kept : {old new ys : List ℕ} → AddsNumber old new ys → (x : ℕ) → Contains old x → Contains new x
Adds-kept {old} {new} {ys} h x c = (c.0, omega (arith, c.1, h.longer), h.prefix c.0 x c.1 ∙ c.2)

Adds-then : {old now new ys zs : List ℕ} → AddsNumber old now ys → AddsNumber now new zs → AddsNumber old new (ys ++ zs)
Adds-then {old} {now} {new} {ys} {zs} h k = record {
  longer = omega (arith, h.longer, k.longer);
  prefix = λ i d lt. k.prefix i d (omega (arith, lt, h.longer)) ∙ h.prefix i d lt;
  visited = λ x c. elim (Contains-append_cases ys zs x c) [ inl d ↦ Adds-kept k x (h.visited x d) | inr d ↦ k.visited x d ];
  only = λ x c. elim (k.only x c) [
    | inl d ↦ elim (h.only x d) [ inl e ↦ inl e | inr e ↦ inr (Contains-append_left ys zs x e) ]
    | inr d ↦ inr (Contains-append_right ys zs x d)
  ];
  apart = λ d. k.apart (h.apart d);
}

-- the step of a loop: the next number of a list is added
pub Adds-more : {old now new : List ℕ} (ys : List ℕ) (i d : ℕ) → i < length ys → AddsNumber old now (take i ys) → new ≡ with_number now (get_or ys i d) → AddsNumber old new (take (i + 1) ys)
Adds-more {old} {now} {new} ys i d lt h e = subst (AddsNumber old new) (sym (take_more ys i d lt)) (Adds-then h (subst (λ (xs : List ℕ). AddsNumber now xs (get_or ys i d ∷ [])) (sym e) (one_added now (get_or ys i d))))

-- ---- the search: its state, step by step

-- the state of the search: paths lead to all found numbers, and the successors of the numbers before the place are
-- found too
pub record Reads (next : ℕ → List ℕ) (start : ℕ) (found : List ℕ) (place : ℕ) : Type 0 where
  pub started : Contains found start
  pub led : (x : ℕ) → Contains found x → Leads next start x
  pub closed : (k d : ℕ) → k < place → (y : ℕ) → HasEdge next (get_or found k d) y → Contains found y
  pub apart : IsDistinct eqb found

pub reads_begin : (next : ℕ → List ℕ) (start : ℕ) → Reads next start (start ∷ []) 0
reads_begin next start = record {
  started = (0, omega arith, refl);
  led = λ x c. subst (Leads next start) (only_one start x c) (Leads-self start);
  closed = λ k d lt. absurd (omega arith);
  apart = IsDistinct-from_apart eqb (start ∷ []) (λ i j d lt l. absurd (omega arith));
}

any_default : (xs : List ℕ) (k d e : ℕ) → k < length xs → get_or xs k d ≡ get_or xs k e
any_default xs k d e lt = some (get_or xs k d) (get_or xs k e) (sym (slice_get-get_or xs k d lt) ∙ slice_get-get_or xs k e lt)
  where
    some : (x y : ℕ) → Some x ≡ Some y → x ≡ y
    some x y f = cc

pub reads_step : (next : ℕ → List ℕ) (start place d : ℕ) {found new ys : List ℕ} → place < length found → ys ≡ next (get_or found place d) → Reads next start found place → AddsNumber found new ys → Reads next start new (place + 1)
reads_step next start place d {found} {new} {ys} within e h a = record {
  started = Adds-kept a start h.started;
  led = λ x c. elim (a.only x c) [
    | inl f ↦ h.led x f
    | inr f ↦ Leads-then (h.led (get_or found place d) (Contains-get_or found place d within)) (subst (λ (xs : List ℕ). Contains xs x) e f)
  ];
  closed = λ k d' lt y edge. elim (cases_lt k place) [
    | inl before ↦ Adds-kept a y (h.closed k d' before y (subst (λ (x : ℕ). HasEdge next x y) (a.prefix k d' (omega arith)) edge))
    | inr le ↦ a.visited y (subst (λ (xs : List ℕ). Contains xs y) (sym e) (subst (λ (x : ℕ). HasEdge next x y) (here k d' (omega arith)) edge))
  ];
  apart = a.apart h.apart;
}
  where
    here : (k d' : ℕ) → k ≡ place → get_or new k d' ≡ get_or found place d
    here k d' same = ap (λ (i : ℕ). get_or new i d') same ∙ a.prefix place d' within ∙ any_default found place d' d within

pub reads_below : (next : ℕ → List ℕ) (count start place d : ℕ) {found : List ℕ} → IsClosed next count → start < count → place < length found → Reads next start found place → get_or found place d < count
reads_below next count start place d {found} ok lt within h = Leads-below ok lt (h.led (get_or found place d) (Contains-get_or found place d within))

flips : (x y : ℕ) → eqb x y ≡ eqb y x
flips x y = go (cases_Bool (eqb x y)) (cases_Bool (eqb y x))
  where
    go : (eqb x y ≡ true) ⊎ (eqb x y ≡ false) → (eqb y x ≡ true) ⊎ (eqb y x ≡ false) → eqb x y ≡ eqb y x
    go (inl e) f = e ∙ sym (eq-eqb y x (sym (eqb-true x y e)))
    go (inr e) (inr f) = e ∙ sym f
    go (inr e) (inl f) = absurd (both_ways (eqb x y) e (eq-eqb x y (sym (eqb-true y x f))))

-- if the place is past all found numbers, the sorted numbers are the chain
pub reads_end : (next : ℕ → List ℕ) (start place : ℕ) (found sorted : List ℕ) → length found ≤ place → Reads next start found place → IsPermutation found sorted → IsSorted nat_cmp sorted → IsChain next start sorted
reads_end next start place found sorted all h same ordered = record {
  rising = IsStrictlyIncreasing-from_distinct sorted (IsNonDecreasingBy-from_sort (λ (x : ℕ). x) sorted ordered) (IsDistinct-IsPermutation eqb flips found sorted same h.apart);
  members = λ x. (
    λ c. h.led x (Contains-permutation sorted found x (IsPermutation-sym found sorted same) c),
    λ l. Contains-permutation found sorted x same (reached x l),
  );
}
  where
    reached : (x : ℕ) → Leads next start x → Contains found x
    reached x l = Leads-forth (λ z. Contains found z) (λ a c edge p. h.closed p.0 a (omega (arith, p.1)) c (subst (λ (z : ℕ). HasEdge next z c) (sym p.2) edge)) l h.started
