-- Lemmas: linked cells and free slots, what a walk over them returns, and what a write leaves unchanged.
use Rattle.std.proofs.Common.{◌≡◌, ◌≢◌, ℕ, zero, suc, ◌+◌, ◌-◌, ◌<◌, ◌≤◌, List, [], ◌∷◌, map, length, get_or, set, Option, Some, None, IsSome, slice_get, refl, sym, ap, subst, ◌∙◌, arith, add-one, true≢false}
use Rattle.std.proofs.lemmas.Option.{slice_get_within, same_Some, get_or_from_slice_get}
use Rattle.list_pool.proofs.SlotReads.{slice_get-set_same, slice_get-set_other}
use Rattle.list_pool.specs.declared.store.PoolSlot.{PoolSlot}
use Rattle.list_pool.specs.declared.store.PoolSlot.TheVariants.{Free, Head, Cell}
use Rattle.list_pool.specs.declared.store.Head.{Head as HeadRow}
use Rattle.list_pool.specs.declared.store.Cell.{Cell as CellRow}
use Rattle.list_pool.specs.declared.store.TheConstants.{END}
use Rattle.list_pool.specs.Pool.{Row, find_list}
use Rattle.list_pool.specs.Store.{walk, list_in, lists_of, value_in, next_slot, Linked, FreeFrom, IsUsed, IsUsedAt, FillsSlot}

abbrev pub cell_of : ℕ → ℕ → ℕ → PoolSlot
cell_of list value next = Cell (record { list = list; value = value; next = next })

-- the list that a cell names
abbrev pub list_in_cell : Option PoolSlot → ℕ
list_in_cell (Some (Cell c)) = c.list
list_in_cell _ = 0

pub head_not_cell : (a : HeadRow) (b : CellRow) → Some (Head a) ≡ Some (Cell b) → ⊥
head_not_cell a b q = cc

-- A walk over linked cells returns these cells.
pub walk_linked : (s : List PoolSlot) (l at : ℕ) (xs : List Row) → Linked s l at xs → walk s at (length xs) ≡ xs
walk_linked s l at [] h = refl
walk_linked s l at (x ∷ xs) h =
    let e = h.2 in
    let first : ◌≡◌ {A = Row} (at, value_in (slice_get s at)) x = rw e (ap (λ (k : ℕ). (k, x.1)) h.1) in
    let rest : walk s (next_slot (slice_get s at)) (length xs) ≡ xs = rw e (walk_linked s l h.0 xs h.3) in
    cc

pub length-walk : (s : List PoolSlot) (at n : ℕ) → length (walk s at n) ≡ n
length-walk s at zero = refl
length-walk s at (suc n) = ap suc (length-walk s _ n)

-- The number of cells from a slot to the end is unique.
pub Linked-one_length : (s : List PoolSlot) (l at : ℕ) (xs ys : List Row) → length s ≤ END → Linked s l at xs → Linked s l at ys → length xs ≡ length ys
Linked-one_length s l at [] [] few p q = refl
Linked-one_length s l at [] (y ∷ ys) few p q = absurd (omega (arith, slice_get_within s at _ q.2))
Linked-one_length s l at (x ∷ xs) [] few p q = absurd (omega (arith, slice_get_within s at _ p.2))
Linked-one_length s l at (x ∷ xs) (y ∷ ys) few p q =
    let a = p.2 in
    let b = q.2 in
    let next : q.0 ≡ p.0 = ap next_slot (sym b ∙ a) in
    ap suc (Linked-one_length s l p.0 xs ys few p.3 (subst (λ (k : ℕ). Linked s l k ys) next q.3))

pub FreeFrom-one_length : (s : List PoolSlot) (at m n : ℕ) → length s ≤ END → FreeFrom s at m → FreeFrom s at n → m ≡ n
FreeFrom-one_length s at zero zero few p q = refl
FreeFrom-one_length s at zero (suc n) few p q = absurd (omega (arith, slice_get_within s at _ q.1))
FreeFrom-one_length s at (suc m) zero few p q = absurd (omega (arith, slice_get_within s at _ p.1))
FreeFrom-one_length s at (suc m) (suc n) few p q =
    let a = p.1 in
    let b = q.1 in
    let next : q.0 ≡ p.0 = cc in
    ap suc (FreeFrom-one_length s p.0 m n few p.2 (subst (λ (k : ℕ). FreeFrom s k n) next q.2))

-- If the slots of all cells are unchanged, the list is unchanged.
pub Linked-kept : (s t : List PoolSlot) (l : ℕ) (n at : ℕ) (xs : List Row) → ((i : ℕ) (y : Row) (ys : List Row) → length ys < n → Linked s l i (y ∷ ys) → slice_get t i ≡ slice_get s i) → length xs ≤ n → Linked s l at xs → Linked t l at xs
Linked-kept s t l n at [] same le h = h
Linked-kept s t l n at (x ∷ xs) same le h =
    (h.0, h.1, same at x xs (omega arith) h ∙ h.2, Linked-kept s t l n h.0 xs same (omega arith) h.3)

pub FreeFrom-kept : (s t : List PoolSlot) (n at m : ℕ) → ((i k : ℕ) → k < n → FreeFrom s i (suc k) → slice_get t i ≡ slice_get s i) → m ≤ n → FreeFrom s at m → FreeFrom t at m
FreeFrom-kept s t n at zero same le h = h
FreeFrom-kept s t n at (suc m) same le h =
    (h.0, same at m (omega arith) h ∙ h.1, FreeFrom-kept s t n h.0 m same (omega arith) h.2)

-- the list whose head is in the slot, if there is one
abbrev pub found : List PoolSlot → Option PoolSlot → Option (List Row)
found s None = None
found s (Some x) = list_in s x

pub find-lists_of : (s : List PoolSlot) (i : ℕ) → find_list (lists_of s) i ≡ found s (slice_get s i)
find-lists_of s i = go s i
  where
    go : (t : List PoolSlot) (i : ℕ) → get_or (map (list_in s) t) i None ≡ found s (slice_get t i)
    go [] i = refl
    go (x ∷ t) zero = refl
    go (x ∷ t) (suc i) = go t i

-- ---- the free slots after a write
not_free : (s : List PoolSlot) (at i next : ℕ) → IsUsedAt s at → slice_get s i ≡ Some (Free next) → i ≢ at
not_free s at i next u h e =
    let a = u.1 in
    let same : Some u.0 ≡ Some (Free next) = sym a ∙ ap (slice_get s) (sym e) ∙ h in
    subst IsUsed (same_Some _ _ same) u.2

pub FreeFrom-put : (s : List PoolSlot) (at : ℕ) (x : PoolSlot) (f m : ℕ) → IsUsedAt s at → FreeFrom s f m → FreeFrom (set s at x) f m
FreeFrom-put s at x f m u h =
    FreeFrom-kept s (set s at x) m f m (λ i k lt p. slice_get-set_other s at i x (not_free s at i p.0 u p.1)) (omega arith) h

pub FreeFrom-give : (s : List PoolSlot) (at f m : ℕ) → IsUsedAt s at → FreeFrom s f m → FreeFrom (set s at (Free f)) at (m + 1)
FreeFrom-give s at f m u h =
    rw add-one (f, slice_get-set_same s at (Free f) (slice_get_within s at u.0 u.1), FreeFrom-put s at (Free f) f m u h)

pub FreeFrom-take : (s : List PoolSlot) (at next m : ℕ) (x : PoolSlot) → length s ≤ END → FreeFrom s at (suc m) → slice_get s at ≡ Some (Free next) → FreeFrom (set s at x) next m
FreeFrom-take s at next m x few h e =
    let a = h.1 in
    let same : h.0 ≡ next = ap free_next (sym a ∙ e) in
    subst (λ (k : ℕ). FreeFrom (set s at x) k m) same
    (FreeFrom-kept s (set s at x) m h.0 m (λ i k lt p. slice_get-set_other s at i x (λ (q : i ≡ at). omega (arith, FreeFrom-one_length s at (suc k) (suc m) few (subst (λ (j : ℕ). FreeFrom s j (suc k)) q p) h))) (omega arith) h.2)
  where
    free_next : Option PoolSlot → ℕ
    free_next (Some (Free n)) = n
    free_next _ = 0

pub Takes-set : (s : List PoolSlot) (at next : ℕ) (x : PoolSlot) → length s ≤ END → slice_get s at ≡ Some (Free next) → FillsSlot s (set s at x) at x
Takes-set s at next x few h = record {
  below = omega (arith, slice_get_within s at _ h);
  here = slice_get-set_same s at x (slice_get_within s at _ h);
  was_free = λ u. not_free s at at next u h refl;
  others = λ i ne. slice_get-set_other s at i x ne;
}

-- ---- reading the list of a live name
pub live_head : (s : List PoolSlot) (i : ℕ) → IsSome (find_list (lists_of s) i) → (h : HeadRow) × (slice_get s i ≡ Some (Head h))
live_head s i live = go (slice_get s i) refl (subst IsSome (find-lists_of s i) live)
  where
    go : (o : Option PoolSlot) → slice_get s i ≡ o → IsSome (found s o) → (h : HeadRow) × (slice_get s i ≡ Some (Head h))
    go None e f = absurd (true≢false (sym f))
    go (Some (Free n)) e f = absurd (true≢false (sym f))
    go (Some (Cell c)) e f = absurd (true≢false (sym f))
    go (Some (Head h)) e f = (h, e)

-- The list of a head is what a walk over its cells returns.
pub list_at_head : (s : List PoolSlot) (i : ℕ) (h : HeadRow) → slice_get s i ≡ Some (Head h) → find_list (lists_of s) i ≡ Some (walk s h.first h.len)
list_at_head s i h e = find-lists_of s i ∙ ap (found s) e

-- Reading `items[free]`, if there are free slots.
pub free_read : (s : List PoolSlot) (at n : ℕ) (x : PoolSlot) (next : ℕ) → FreeFrom s at n → 0 < n → x ≡ get_or s at x → x ≡ Free next → slice_get s at ≡ Some (Free next)
free_read s at zero x next h lt e is = absurd (omega arith)
free_read s at (suc n) x next h lt e is = h.1 ∙ ap Some (sym (get_or_from_slice_get s at _ x h.1) ∙ sym e ∙ is)

pub FreeFrom-less : (s : List PoolSlot) (at next n : ℕ) (x : PoolSlot) → length s ≤ END → 0 < n → FreeFrom s at n → slice_get s at ≡ Some (Free next) → FreeFrom (set s at x) next (n - 1)
FreeFrom-less s at next zero x few lt h e = absurd (omega arith)
FreeFrom-less s at next (suc n) x few lt h e =
    let same : suc n - 1 ≡ n = omega arith in
    subst (FreeFrom (set s at x) next) (sym same) (FreeFrom-take s at next n x few h e)
