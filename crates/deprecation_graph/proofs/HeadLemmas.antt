-- Lemmas: a change of one list in a pool changes only this list.
use Rattle.std.proofs.Common.{◌≡◌, ◌≢◌, ◌⊎◌, ℕ, zero, suc, ◌+◌, ◌<◌, ◌≤◌, ◌==◌, Bool, true, false, cond, List, [], ◌∷◌, ◌++◌, length, map, take, get_or, refl, sym, ap, subst, ◌∙◌, inl, inr, arith, Option, Some, None, slice_get, slice_set, IsSome}
use Rattle.std.specs.List.{Contains}
use Rattle.std.proofs.lemmas.Bool.{cases_eq, both_ways, eq-eqb}
use Rattle.std.specs.Option.{option_map}
use Rattle.std.proofs.lemmas.List.{map-append, length_push, length-map, take_more, take_all}
use Rattle.std.proofs.lemmas.List.Sums.{sum_by-set, sum_by_push}
use Rattle.std.proofs.lemmas.Option.{slice_get_within, slice_get_read, slice_get-map, get_or_from_slice_get, same_Some, none-some}
use Rattle.list_pool.specs.Pool.{Row, find_list, list_at, rows_or_none, IsLiveList, slots_of, cell_at, cell_value_at, Updates, Pushes, has_value, without_first_cell}
use Rattle.list_pool.specs.declared.ListName.{ListName}
use Rattle.list_pool.proofs.SlotReads.{sum_by-one_read}
use Rattle.deprecation_graph.proofs.Rising.{Contains-cases}
use Rattle.deprecation_graph.specs.Indexed.{list_of_node, without_number, size_of}
use Rattle.deprecation_graph.specs.Heads.{heads_values, lists_at, AreHeads}

-- ---- maps that differ at one place

map-one : (f g : ListName → List ℕ) (heads : List ListName) (i : ℕ) (ys : List ℕ) → i < length heads → ((j : ℕ) (h : ListName) → slice_get heads j ≡ Some h → j ≢ i → g h ≡ f h) → ((h : ListName) → slice_get heads i ≡ Some h → g h ≡ ys) → map g heads ≡ slice_set (map f heads) i ys
map-one f g [] i ys lt others here = absurd (omega arith)
map-one f g (h ∷ hs) zero ys lt others here =
    let first : g h ≡ ys = here h refl in
    let rest : map g hs ≡ map f hs = map-same f g hs (λ j k e. others (suc j) k e (λ z. omega arith)) in
    cc
  where
    map-same : (f' g' : ListName → List ℕ) (ks : List ListName) → ((j : ℕ) (k : ListName) → slice_get ks j ≡ Some k → g' k ≡ f' k) → map g' ks ≡ map f' ks
    map-same f' g' [] e = refl
    map-same f' g' (k ∷ ks) e = let first : g' k ≡ f' k = e 0 k refl in let rest = map-same f' g' ks (λ j m is. e (suc j) m is) in cc
map-one f g (h ∷ hs) (suc i) ys lt others here =
    let first : g h ≡ f h = others 0 h refl (λ z. omega arith) in
    let rest : map g hs ≡ slice_set (map f hs) i ys = map-one f g hs i ys (omega arith) (λ j k e ne. others (suc j) k e (λ z. ne (omega arith))) here in
    cc

map-alike : (f g : ListName → List ℕ) (heads : List ListName) → ((j : ℕ) (h : ListName) → slice_get heads j ≡ Some h → g h ≡ f h) → map g heads ≡ map f heads
map-alike f g [] same = refl
map-alike f g (h ∷ hs) same = let first : g h ≡ f h = same 0 h refl in let rest = map-alike f g hs (λ j k e. same (suc j) k e) in cc

pub list_of-map : (f : ListName → List ℕ) (heads : List ListName) (i : ℕ) (h : ListName) → slice_get heads i ≡ Some h → list_of_node (map f heads) i ≡ f h
list_of-map f [] i h e = absurd (none-some h e)
list_of-map f (k ∷ ks) zero h e = ap f (same_Some k h e)
list_of-map f (k ∷ ks) (suc i) h e = list_of-map f ks i h e

-- ---- the number of slots of a live list in its pool

live_slots : (lists : List (Option (List Row))) (name : ℕ) → IsLiveList lists name → slots_of (find_list lists name) ≡ length (heads_values lists name) + 1
live_slots lists name live = go (find_list lists name) live
  where
    go : (o : Option (List Row)) → IsSome o → slots_of o ≡ length (map (λ (x : Row). x.1) (rows_or_none o)) + 1
    go None s = absurd cc
    go (Some rows) s = ap (λ n. n + 1) (sym (length-map rows (λ (x : Row). x.1)))

values-updated : (new : List (Option (List Row))) (name : ℕ) (rows : List Row) → find_list new name ≡ Some rows → heads_values new name ≡ map (λ (x : Row). x.1) rows
values-updated new name rows e = ap (λ (o : Option (List Row)). map (λ (x : Row). x.1) (rows_or_none o)) e

values-kept : (old new : List (Option (List Row))) (name : ℕ) → find_list new name ≡ find_list old name → heads_values new name ≡ heads_values old name
values-kept old new name e = ap (λ (o : Option (List Row)). map (λ (x : Row). x.1) (rows_or_none o)) e

-- ---- one list is changed

module _ (old new : List (Option (List Row))) (heads : List ListName) (i : ℕ) (h : ListName) (rows : List Row) (ok : AreHeads old heads) (is : slice_get heads i ≡ Some h) (u : Updates old new h.0 (Some rows)) where
  pub lists_at-updated : lists_at new heads ≡ slice_set (lists_at old heads) i (map (λ (x : Row). x.1) rows)
  lists_at-updated = map-one (λ (k : ListName). heads_values old k.0) (λ (k : ListName). heads_values new k.0) heads i (map (λ (x : Row). x.1) rows) (slice_get_within heads i h is)
      (λ j k e ne. values-kept old new k.0 (u.others k.0 (λ same. ne (ok.apart j i k h e is same))))
      (λ k e. let same : k ≡ h = same_Some k h (sym e ∙ is) in ap (λ (m : ListName). heads_values new m.0) same ∙ values-updated new h.0 rows u.changed)

  pub heads-updated : AreHeads new heads
  heads-updated = record {
    live = λ j k e. elim (cases_eq k.0 h.0) [
      | inl same ↦ subst (λ (o : Option (List Row)). IsSome o) (sym (ap (find_list new) same ∙ u.changed)) refl
      | inr ne ↦ subst (λ (o : Option (List Row)). IsSome o) (sym (u.others k.0 ne)) (ok.live j k e)
    ];
    apart = ok.apart;
    size =
        let sums = sum_by-one_read slots_of refl old new h.0 (λ name ne. u.others name ne) in
        let was = live_slots old h.0 (ok.live i h is) in
        let now : slots_of (find_list new h.0) ≡ length rows + 1 = ap slots_of u.changed in
        let at : get_or (lists_at old heads) i [] ≡ heads_values old h.0 = list_of-map (λ (k : ListName). heads_values old k.0) heads i h is in
        let set = sum_by-set (λ (xs : List ℕ). length xs + 1) (lists_at old heads) i (map (λ (x : Row). x.1) rows) [] (omega (arith, length-map heads (λ (k : ListName). heads_values old k.0), slice_get_within heads i h is)) in
        omega (arith, sums, was, now, ap length at, set, ok.size, length-map rows (λ (x : Row). x.1), ap size_of lists_at-updated);
  }

-- ---- a number is added at the end of a list

pub lists_at-pushed : (old new : List (Option (List Row))) (heads : List ListName) (i value : ℕ) (h : ListName) → AreHeads old heads → slice_get heads i ≡ Some h → Pushes old new h.0 value → lists_at new heads ≡ slice_set (lists_at old heads) i (list_of_node (lists_at old heads) i ++ value ∷ [])
lists_at-pushed old new heads i value h ok is p =
    lists_at-updated old new heads i h (list_at old h.0 ++ (p.0, value) ∷ []) ok is p.2
    ∙ ap (slice_set (lists_at old heads) i) (map-append (λ (x : Row). x.1) (list_at old h.0) ((p.0, value) ∷ []) ∙ ap (λ (xs : List ℕ). xs ++ value ∷ []) (sym (list_of-map (λ (k : ListName). heads_values old k.0) heads i h is)))

pub heads-pushed : (old new : List (Option (List Row))) (heads : List ListName) (i value : ℕ) (h : ListName) → AreHeads old heads → slice_get heads i ≡ Some h → Pushes old new h.0 value → AreHeads new heads
heads-pushed old new heads i value h ok is p = heads-updated old new heads i h (list_at old h.0 ++ (p.0, value) ∷ []) ok is p.2

-- ---- a number is removed from a list

values-without : (value : ℕ) (rows : List Row) → map (λ (x : Row). x.1) (without_first_cell value rows) ≡ without_number value (map (λ (x : Row). x.1) rows)
values-without value [] = refl
values-without value (x ∷ xs) = go (x.1 == value) (values-without value xs)
  where
    go : (b : Bool) → map (λ (y : Row). y.1) (without_first_cell value xs) ≡ without_number value (map (λ (y : Row). y.1) xs) → map (λ (y : Row). y.1) (cond b xs (x ∷ without_first_cell value xs)) ≡ cond b (map (λ (y : Row). y.1) xs) (x.1 ∷ without_number value (map (λ (y : Row). y.1) xs))
    go true r = refl
    go false r = ap (λ (ys : List ℕ). x.1 ∷ ys) r

pub lists_at-removed : (old new : List (Option (List Row))) (heads : List ListName) (i value : ℕ) (h : ListName) → AreHeads old heads → slice_get heads i ≡ Some h → Updates old new h.0 (Some (without_first_cell value (list_at old h.0))) → lists_at new heads ≡ slice_set (lists_at old heads) i (without_number value (list_of_node (lists_at old heads) i))
lists_at-removed old new heads i value h ok is u =
    lists_at-updated old new heads i h (without_first_cell value (list_at old h.0)) ok is u
    ∙ ap (slice_set (lists_at old heads) i) (values-without value (list_at old h.0) ∙ ap (without_number value) (sym (list_of-map (λ (k : ListName). heads_values old k.0) heads i h is)))

-- ---- a list is added

slice_get-push : (heads : List ListName) (h : ListName) (j : ℕ) (k : ListName) → slice_get (heads ++ h ∷ []) j ≡ Some k → (slice_get heads j ≡ Some k) ⊎ ((j ≡ length heads) × (k ≡ h))
slice_get-push [] h zero k e = inr (refl, sym (same_Some h k e))
slice_get-push [] h (suc j) k e = absurd (none-some k e)
slice_get-push (x ∷ xs) h zero k e = inl e
slice_get-push (x ∷ xs) h (suc j) k e = elim (slice_get-push xs h j k e) [ inl r ↦ inl r | inr r ↦ inr (omega (arith, r.0), r.1) ]

module _ (old new : List (Option (List Row))) (heads : List ListName) (h : ListName) (ok : AreHeads old heads) (fresh : find_list old h.0 ≡ None) (u : Updates old new h.0 (Some [])) where
  other : (j : ℕ) (k : ListName) → slice_get heads j ≡ Some k → k.0 ≢ h.0
  other j k e same = go (find_list old h.0) fresh (subst (IsLiveList old) same (ok.live j k e))
    where
      go : (o : Option (List Row)) → o ≡ None → IsSome o → ⊥
      go None f s = absurd cc
      go (Some rows) f s = absurd cc

  pub lists_at-added : lists_at new (heads ++ h ∷ []) ≡ lists_at old heads ++ [] ∷ []
  lists_at-added =
      map-append (λ (k : ListName). heads_values new k.0) heads (h ∷ [])
      ∙ ap (λ (xs : List (List ℕ)). xs ++ heads_values new h.0 ∷ []) (map-alike (λ (k : ListName). heads_values old k.0) (λ (k : ListName). heads_values new k.0) heads (λ j k e. values-kept old new k.0 (u.others k.0 (other j k e))))
      ∙ ap (λ (xs : List ℕ). lists_at old heads ++ xs ∷ []) (values-updated new h.0 [] u.changed)

  pub heads-added : AreHeads new (heads ++ h ∷ [])
  heads-added = record {
    live = λ j k e. elim (slice_get-push heads h j k e) [
      | inl r ↦ subst (λ (o : Option (List Row)). IsSome o) (sym (u.others k.0 (other j k r))) (ok.live j k r)
      | inr r ↦ subst (λ (o : Option (List Row)). IsSome o) (sym (ap (λ (m : ListName). find_list new m.0) r.1 ∙ u.changed)) refl
    ];
    apart = λ i j k m e f same. elim (slice_get-push heads h i k e) [
      | inl r ↦ elim (slice_get-push heads h j m f) [
        | inl q ↦ ok.apart i j k m r q same
        | inr q ↦ absurd (other i k r (same ∙ ap (λ (n : ListName). n.0) q.1))
      ]
      | inr r ↦ elim (slice_get-push heads h j m f) [
        | inl q ↦ absurd (other j m q (sym same ∙ ap (λ (n : ListName). n.0) r.1))
        | inr q ↦ omega (arith, r.0, q.0)
      ]
    ];
    size =
        let sums = sum_by-one_read slots_of refl old new h.0 (λ name ne. u.others name ne) in
        omega (arith, sums, ap slots_of fresh, ap slots_of u.changed, ok.size, ap size_of lists_at-added, sum_by_push (λ (xs : List ℕ). length xs + 1) (lists_at old heads) []);
  }

-- ---- the head at an index

pub read_head : (lists : List (Option (List Row))) (heads : List ListName) (value : List (List ℕ)) (i : ℕ) (h : ListName) → lists_at lists heads ≡ value → i < length value → h ≡ get_or heads i h → slice_get heads i ≡ Some h
read_head lists heads value i h e lt is = slice_get_read heads (length heads) i h refl (omega (arith, ap length e, length-map heads (λ (k : ListName). heads_values lists k.0))) is

pub there_read : (lists : List (Option (List Row))) (heads : List ListName) (value : List (List ℕ)) (i v : ℕ) (h : ListName) → lists_at lists heads ≡ value → slice_get heads i ≡ Some h → Contains (list_of_node value i) v → has_value v (list_at lists h.0) ≡ true
there_read lists heads value i v h e is c = has (list_at lists h.0) (subst (λ (xs : List ℕ). Contains xs v) (sym (ap (λ (ls : List (List ℕ)). list_of_node ls i) e) ∙ list_of-map (λ (k : ListName). heads_values lists k.0) heads i h is) c)
  where
    has : (rows : List Row) → Contains (map (λ (x : Row). x.1) rows) v → has_value v rows ≡ true
    has [] d = absurd (omega (arith, d.1))
    has (x ∷ xs) d = go (x.1 == v) refl (Contains-cases v x.1 (map (λ (y : Row). y.1) xs) d) (has xs)
      where
        go : (b : Bool) → (x.1 == v) ≡ b → (v ≡ x.1) ⊎ Contains (map (λ (y : Row). y.1) xs) v → (Contains (map (λ (y : Row). y.1) xs) v → has_value v xs ≡ true) → cond b true (has_value v xs) ≡ true
        go true f r rest = refl
        go false f (inl same) rest = absurd (both_ways (x.1 == v) f (eq-eqb x.1 v (sym same)))
        go false f (inr m) rest = rest m

-- ---- a list is copied

within_cells : (rows : List Row) (k cell : ℕ) → option_map (λ (x : Row). x.0) (slice_get rows k) ≡ Some cell → k < length rows
within_cells [] k cell e = absurd cc
within_cells (x ∷ xs) zero cell e = omega arith
within_cells (x ∷ xs) (suc k) cell e = omega (arith, within_cells xs k cell e)

past_cells : (rows : List Row) (k : ℕ) → option_map (λ (x : Row). x.0) (slice_get rows k) ≡ None → length rows ≤ k
past_cells [] k e = omega arith
past_cells (x ∷ xs) zero e = absurd cc
past_cells (x ∷ xs) (suc k) e = omega (arith, past_cells xs k e)

pub cell_within : (lists : List (Option (List Row))) (name k cell : ℕ) → cell_at lists name k ≡ Some cell → k < length (list_at lists name)
cell_within lists name k cell e = within_cells (list_at lists name) k cell e

pub read_step : (lists : List (Option (List Row))) (name v : ℕ) (items more : List ℕ) → length items < length (list_at lists name) → items ≡ take (length items) (heads_values lists name) → cell_value_at lists name (length items) ≡ Some v → more ≡ items ++ v ∷ [] → more ≡ take (length more) (heads_values lists name)
read_step lists name v items more lt prefix is e =
    let here : get_or (heads_values lists name) (length items) 0 ≡ v = get_or_from_slice_get (heads_values lists name) (length items) v 0 (slice_get-map (λ (x : Row). x.1) (list_at lists name) (length items) ∙ is) in
    let count : length more ≡ length items + 1 = ap length e ∙ length_push items v in
    let last : v ≡ get_or (heads_values lists name) (length items) 0 = sym here in
    e
    ∙ ap (λ (xs : List ℕ). xs ++ v ∷ []) prefix
    ∙ ap (λ (x : ℕ). take (length items) (heads_values lists name) ++ x ∷ []) last
    ∙ sym (take_more (heads_values lists name) (length items) 0 (omega (arith, length-map (list_at lists name) (λ (x : Row). x.1))))
    ∙ ap (λ n. take n (heads_values lists name)) (sym count)

pub read_end : (lists : List (Option (List Row))) (name : ℕ) (items : List ℕ) → cell_at lists name (length items) ≡ None → items ≡ take (length items) (heads_values lists name) → items ≡ heads_values lists name
read_end lists name items e prefix = prefix ∙ take_all (length items) (heads_values lists name) (omega (arith, past_cells (list_at lists name) (length items) e, length-map (list_at lists name) (λ (x : Row). x.1)))
