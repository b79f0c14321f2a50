-- Lemmas: writing a cell's value, removing a cell, and reading the last cell or a found cell.
use Rattle.std.proofs.Common.{◌≡◌, ◌≢◌, ℕ, zero, suc, ◌+◌, ◌-◌, ◌<◌, ◌≤◌, List, [], ◌∷◌, length, set, Option, Some, None, IsSome, slice_get, slice_set, refl, sym, ap, subst, ◌∙◌, inl, inr, arith, Bool, cond, eqb, true, false, eq-eqb, length-set}
use Rattle.std.specs.Option.{option_map}
use Rattle.std.specs.Bool.{OnTrue}
use Rattle.std.proofs.lemmas.Option.{slice_get_within, same_Some}
use Rattle.std.proofs.lemmas.Bool.{cases_eq, eqb-true}
use Rattle.list_pool.proofs.SlotReads.{slice_get-set_same, slice_get-set_other}
use Rattle.list_pool.specs.declared.store.PoolSlot.{PoolSlot}
use Rattle.list_pool.specs.declared.store.PoolSlot.TheVariants.{Free, Head, Cell}
use Rattle.list_pool.specs.declared.store.Head.{Head as HeadRow}
use Rattle.list_pool.specs.declared.store.Cell.{Cell as CellRow}
use Rattle.list_pool.specs.declared.store.Store.{Store}
use Rattle.list_pool.specs.declared.store.TheConstants.{END}
use Rattle.list_pool.specs.Pool.{Row, Updates, find_list, list_at, rows_or_none, cell_at, cell_with, without_first_cell, without_at, last_cell_of, WritesCell, TakesOut, ValueIs, has_value, IsCellOf}
use Rattle.list_pool.specs.Store.{walk, lists_of, next_slot, Linked, EndsAt, AreSlotLists, IsList, IsStore, IsPool, KeepsCells, Rewrites, ListIs, find_in, is_cell_in}
use Rattle.list_pool.proofs.SlotWalks.{length-walk, cell_of, head_not_cell, list_at_head, list_in_cell, Linked-one_length, Linked-kept}
use Rattle.list_pool.proofs.SlotChanges.{Rewrites-set, lists_updated, IsPool-changed}
use Rattle.list_pool.proofs.SlotCells.{Linked-at, RowOf, row_of, slots_of_head, cell_lies}
use Rattle.list_pool.proofs.SlotsPlaced.{keeps_same, keeps_at, present_kept}
use Rattle.list_pool.proofs.SlotsApart.{Linked-drop}
use Rattle.list_pool.proofs.SlotRemoves.{prefix_value, on_true}

-- ---- writing a cell's value

module _ (s t : List PoolSlot) (l a v nx : ℕ) (few : length s ≤ END) (now : slice_get t a ≡ Some (cell_of l v nx)) (others : (i : ℕ) → i ≢ a → slice_get t i ≡ slice_get s i) where
  Linked-written : (at k w : ℕ) (xs : List Row) → Linked s l at xs → slice_get xs k ≡ Some (a, w) → slice_get s a ≡ Some (cell_of l w nx) → Linked t l at (slice_set xs k (a, v))
  Linked-written at k w [] h e was = absurd cc
  Linked-written at zero w (y ∷ ys) h e was =
      let here : at ≡ a = h.1 ∙ ap (λ (r : Row). r.0) (same_Some y (a, w) e) in
      let next : nx ≡ h.0 = ap next_slot (sym was ∙ ap (slice_get s) (sym here) ∙ h.2) in
      let apart : (i : ℕ) (z : Row) (zs : List Row) → length zs < length ys → Linked s l i (z ∷ zs) → i ≢ a = λ i z zs lt q same. omega (arith, Linked-one_length s l at (z ∷ zs) (y ∷ ys) few (subst (λ (m : ℕ). Linked s l m (z ∷ zs)) (same ∙ sym here) q) h) in
      (h.0, here, ap (slice_get t) here ∙ now ∙ ap (λ (m : ℕ). Some (cell_of l v m)) next, Linked-kept s t l (length ys) h.0 ys (λ i z zs lt q. others i (apart i z zs lt q)) (omega arith) h.3)
  Linked-written at (suc k) w (y ∷ ys) h e was =
      let ne : at ≢ a = λ same.
      let q = Linked-drop s l h.0 ys k (a, w) h.3 e in
      omega (arith, q.2, Linked-one_length s l a q.0 (y ∷ ys) few q.1 (subst (λ (m : ℕ). Linked s l m (y ∷ ys)) same h)) in
      (h.0, h.1, others at ne ∙ h.2, Linked-written h.0 k w ys h.3 e was)

EndsAt-written : (last a v w k : ℕ) (xs : List Row) → slice_get xs k ≡ Some (a, w) → EndsAt last xs → EndsAt last (slice_set xs k (a, v))
EndsAt-written last a v w k [] e h = absurd cc
EndsAt-written last a v w zero (y ∷ []) e h = h ∙ ap (λ (r : Row). r.0) (same_Some y (a, w) e)
EndsAt-written last a v w (suc k) (y ∷ []) e h = absurd cc
EndsAt-written last a v w zero (y ∷ (z ∷ zs)) e h = h
EndsAt-written last a v w (suc zero) (y ∷ (z ∷ zs)) e h = EndsAt-written last a v w zero (z ∷ zs) e h
EndsAt-written last a v w (suc (suc k)) (y ∷ (z ∷ zs)) e h = EndsAt-written last a v w (suc k) (z ∷ zs) e h

-- The slots after a value was written.
pub record SlotWritten (s t : List PoolSlot) (cell name k v : ℕ) (h : HeadRow) : Type 0 where
  pub rewrites : Rewrites s t name
  pub list : ListIs t name (Some (slice_set (walk s h.first h.len) k (cell, v)))
  pub kept : KeepsCells s t cell

pub written : (s : List PoolSlot) (cell name k v : ℕ) (c : CellRow) → length s ≤ END → AreSlotLists s → (r : RowOf s cell name k) → slice_get s cell ≡ Some (Cell c) → SlotWritten s (set s cell (cell_of c.list v c.next)) cell name k v r.head
written s cell name k v c few ls r sa =
    let h = r.head in
    let w = walk s h.first h.len in
    let is = ls name h r.is in
    let at = Linked-at s name h.first w k (cell, r.value) few is.linked r.here in
    let cl : c.list ≡ name = ap list_in_cell (sym sa ∙ at.1) in
    let x : PoolSlot = cell_of c.list v c.next in
    let t = set s cell x in
    let now : slice_get t cell ≡ Some (cell_of name v c.next) = slice_get-set_same s cell x (slice_get_within s cell _ sa) ∙ ap (λ (m : ℕ). Some (cell_of m v c.next)) cl in
    let was : slice_get s cell ≡ Some (cell_of name r.value c.next) = at.1 ∙ ap (λ (m : ℕ). Some (cell_of name r.value m)) (ap next_slot (sym at.1 ∙ sa)) in
    let cn : name ≢ cell = λ q. head_not_cell h c (sym r.is ∙ ap (slice_get s) q ∙ sa) in
    record {
      rewrites = Rewrites-set s name cell (Cell c) x sa cl cl;
      list = (h, slice_get-set_other s cell name x cn ∙ r.is, Linked-written s t name cell v c.next few now (λ i ne. slice_get-set_other s cell i x ne) h.first k r.value w is.linked r.here was, EndsAt-written h.last cell v r.value k w r.here is.ends, length-set {A = Row} w k (cell, v) ∙ length-walk s h.first h.len);
      kept = keeps_at s s cell x (keeps_same s cell);
    }

pub write_pool : (s t : Store) (cell name k v : ℕ) (c : CellRow) → IsPool s → IsStore t → (r : RowOf s.items.items cell name k) → slice_get s.items.items cell ≡ Some (Cell c) → t.items.items ≡ set s.items.items cell (cell_of c.list v c.next) → t.free_len ≡ s.free_len → IsPool t
write_pool s t cell name k v c p st r sa is n =
    let xs = s.items.items in
    let ts = t.items.items in
    let h = r.head in
    let w = walk xs h.first h.len in
    let q = subst (λ (ys : List PoolSlot). SlotWritten xs ys cell name k v h) (sym is) (written xs cell name k v c (omega (arith, p.store.few)) p.lists r sa) in
    IsPool-changed s t name (Some (slice_set w k (cell, v))) p st q.rewrites q.list
    (λ i d e same. elim (cases_eq i cell) [
      | inl here ↦ (k, ap (option_map (λ (y : Row). y.0)) (slice_get-set_same {X = Row} w k (cell, v) (slice_get_within w k _ r.here)) ∙ ap Some (sym here))
      | inr ne ↦
          let u = present_kept xs ts cell name i d w p.placed (ap rows_or_none (list_at_head xs name h r.is)) q.kept ne e same in
          (u.0, ap (option_map (λ (y : Row). y.0)) (slice_get-set_other {X = Row} w k u.0 (cell, v) (λ z. ne (same_Some i cell (sym u.1 ∙ ap (λ (j : ℕ). option_map (λ (y : Row). y.0) (slice_get w j)) z ∙ ap (option_map (λ (y : Row). y.0)) r.here)))) ∙ u.1)
    ])
    (omega (arith, n, ap length is, length-set {A = PoolSlot} xs cell (cell_of c.list v c.next), slots_of_head xs name h r.is, length-set {A = Row} w k (cell, v), length-walk xs h.first h.len))

pub write_lists : (s t : List PoolSlot) (cell v : ℕ) (c : CellRow) → length s ≤ END → AreSlotLists s → slice_get s cell ≡ Some (Cell c) → t ≡ set s cell (cell_of c.list v c.next) → WritesCell (lists_of s) (lists_of t) cell v
write_lists s t cell v c few ls sa is name k e =
    let r = row_of s cell name k e in
    let h = r.head in
    let q = subst (λ (ys : List PoolSlot). SlotWritten s ys cell name k v h) (sym is) (written s cell name k v c few ls r sa) in
    let w : list_at (lists_of s) name ≡ walk s h.first h.len = ap rows_or_none (list_at_head s name h r.is) in
    subst (λ (xs : List Row). Updates (lists_of s) (lists_of t) name (Some (slice_set xs k (cell, v)))) (sym w) (lists_updated s t name _ ls q.rewrites q.list)

-- ---- removing a cell

pub on_live : (ls : List (Option (List Row))) (name cell : ℕ) → IsCellOf ls name cell → IsSome (find_list ls name)
on_live ls name cell h = go (find_list ls name) h.1
  where
    go : (o : Option (List Row)) → option_map (λ (x : Row). x.0) (slice_get (rows_or_none o) h.0) ≡ Some cell → IsSome o
    go None e = absurd cc
    go (Some rows) e = refl

pub on_first : (ls : List (Option (List Row))) (name cell : ℕ) → IsCellOf ls name cell → None ≡ cell_at ls name 0 → ⊥
on_first ls name cell h e = go (list_at ls name) h.1 e
  where
    go : (rows : List Row) → option_map (λ (x : Row). x.0) (slice_get rows h.0) ≡ Some cell → None ≡ option_map (λ (x : Row). x.0) (slice_get rows 0) → ⊥
    go [] f g = cc
    go (x ∷ xs) f g = cc

-- Removing the value at a position is the same as writing the first value there and removing the first cell.
without_at_is : (cell v k first : ℕ) (xs : List Row) → option_map (λ (x : Row). x.0) (slice_get ((first, v) ∷ xs) k) ≡ Some cell → (has_value v (slice_set ((first, v) ∷ xs) k (cell, v)) ≡ true) × (without_first_cell v (slice_set ((first, v) ∷ xs) k (cell, v)) ≡ without_at cell k ((first, v) ∷ xs))
without_at_is cell v zero first xs e = (ap (λ (b : Bool). cond b true (has_value v xs)) (eq-eqb v v refl), ap (λ (b : Bool). cond b xs ((cell, v) ∷ without_first_cell v xs)) (eq-eqb v v refl))
without_at_is cell v (suc k) first xs e =
    let ys = slice_set xs k (cell, v) in
    (ap (λ (b : Bool). cond b true (has_value v ys)) (eq-eqb v v refl), ap (λ (b : Bool). cond b ys ((first, v) ∷ without_first_cell v ys)) (eq-eqb v v refl))

pub taken_out : (ls ms ns : List (Option (List Row))) (name cell first v a b : ℕ) (r : Bool) → IsCellOf ls name cell → Some first ≡ cell_at ls name 0 → ValueIs ls first v → WritesCell ls ms cell v → r ≡ has_value v (list_at ms name) → OnTrue r (Updates ms ns name (Some (without_first_cell v (list_at ms name)))) → OnTrue r (b ≡ a + 1) → TakesOut ls ns name cell × (b ≡ a + 1)
taken_out ls ms ns name cell first v a b r on f value wr found up spare =
    let p = prefix_value ls name first v (sym f) value in
    let mid : (k : ℕ) → cell_at ls name k ≡ Some cell → list_at ms name ≡ slice_set ((first, v) ∷ p.0) k (cell, v) = λ k e. ap rows_or_none (wr name k e).changed ∙ ap (λ (xs : List Row). slice_set xs k (cell, v)) p.1 in
    let here : (k : ℕ) → cell_at ls name k ≡ Some cell → option_map (λ (x : Row). x.0) (slice_get ((first, v) ∷ p.0) k) ≡ Some cell = λ k e. ap (λ (xs : List Row). option_map (λ (x : Row). x.0) (slice_get xs k)) (sym p.1) ∙ e in
    let yes : r ≡ true = found ∙ ap (has_value v) (mid on.0 on.1) ∙ (without_at_is cell v on.0 first p.0 (here on.0 on.1)).0 in
    let u = on_true r _ yes up in (
      λ k e. record {
        changed = u.changed ∙ ap Some (ap (without_first_cell v) (mid k e) ∙ (without_at_is cell v k first p.0 (here k e)).1 ∙ ap (without_at cell k) (sym p.1));
        others = λ i ne. u.others i ne ∙ (wr name k e).others i ne;
      },
      on_true r _ yes spare,
    )

-- ---- reads

ends_at : (last : ℕ) (xs : List Row) → 0 < length xs → EndsAt last xs → option_map (λ (x : Row). x.0) (slice_get xs (length xs - 1)) ≡ Some last
ends_at last [] lt h = absurd (omega arith)
ends_at last (x ∷ []) lt h = ap Some (sym h)
ends_at last (x ∷ (y ∷ ys)) lt h =
    let long : suc (suc (length ys)) - 1 ≡ suc (length ys) = omega arith in
    let short : suc (length ys) - 1 ≡ length ys = omega arith in
    ap (λ (n : ℕ). option_map (λ (r : Row). r.0) (slice_get (x ∷ (y ∷ ys)) n)) long ∙ ap (λ (n : ℕ). option_map (λ (r : Row). r.0) (slice_get (y ∷ ys) n)) (sym short) ∙ ends_at last (y ∷ ys) (omega arith) h

pub last_is : (s : List PoolSlot) (l : ℕ) (h : HeadRow) → slice_get s l ≡ Some (Head h) → IsList s l h.first h.last h.len → (h.len ≡ 0 → ⊥) → last_cell_of (lists_of s) l ≡ Some h.last
last_is s l h e is ne =
    let w = walk s h.first h.len in
    ap (λ (xs : List Row). option_map (λ (x : Row). x.0) (slice_get xs (length xs - 1))) (ap rows_or_none (list_at_head s l h e)) ∙ ends_at h.last w (omega (arith, length-walk s h.first h.len, some h.len ne)) is.ends
  where
    some : (n : ℕ) → (n ≡ 0 → ⊥) → 0 < n
    some zero f = absurd (f refl)
    some (suc n) f = omega arith

pub no_last : (s : List PoolSlot) (l : ℕ) (h : HeadRow) → slice_get s l ≡ Some (Head h) → h.len ≡ 0 → last_cell_of (lists_of s) l ≡ None
no_last s l h e z = ap (λ (xs : List Row). option_map (λ (x : Row). x.0) (slice_get xs (length xs - 1))) (ap rows_or_none (list_at_head s l h e) ∙ ap (walk s h.first) z)

abbrev second : Option (ℕ × ℕ) → Option ℕ
second (Some p) = Some p.1
second None = None

with_found : (v b : ℕ) (xs : List Row) → cell_with v xs ≡ second (find_in v b xs)
with_found v b [] = refl
with_found v b (x ∷ xs) = go (with_found v x.0 xs) (eqb x.1 v)
  where
    go : cell_with v xs ≡ second (find_in v x.0 xs) → (d : Bool) → cond d (Some x.0) (cell_with v xs) ≡ second (cond d (Some (b, x.0)) (find_in v x.0 xs))
    go r true = refl
    go r false = r

pub find_is : (s : List PoolSlot) (l v : ℕ) (h : HeadRow) (o : Option (ℕ × ℕ)) → slice_get s l ≡ Some (Head h) → o ≡ find_in v END (walk s h.first h.len) → second o ≡ cell_with v (list_at (lists_of s) l)
find_is s l v h o e f = ap second f ∙ sym (with_found v END (walk s h.first h.len)) ∙ ap (cell_with v) (sym (ap rows_or_none (list_at_head s l h e)))

pub on_list : (s : Store) (l cell : ℕ) (r : Bool) → IsPool s → r ≡ is_cell_in l (slice_get s.items.items cell) → (r ≡ true → IsCellOf (lists_of s.items.items) l cell) × (IsCellOf (lists_of s.items.items) l cell → r ≡ true)
on_list s l cell r p is = (
  λ yes. go (slice_get s.items.items cell) refl (sym is ∙ yes),
  λ on.
      let q = cell_lies s.items.items cell l on.0 p.lists (omega (arith, p.store.few)) on.1 in
      is ∙ ap (is_cell_in l) q.lies ∙ eq-eqb l l refl,
)
  where
    go : (o : Option PoolSlot) → slice_get s.items.items cell ≡ o → is_cell_in l o ≡ true → IsCellOf (lists_of s.items.items) l cell
    go None e h = absurd cc
    go (Some (Free n)) e h = absurd cc
    go (Some (Head hd)) e h = absurd cc
    go (Some (Cell c)) e h = subst (λ (m : ℕ). IsCellOf (lists_of s.items.items) m cell) (eqb-true c.list l h) (p.placed cell c e)
