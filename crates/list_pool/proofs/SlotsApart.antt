-- Lemmas: no cell is at two positions.
use Rattle.std.proofs.Common.{◌≡◌, ℕ, zero, suc, ◌+◌, ◌≤◌, List, [], ◌∷◌, length, Some, slice_get, sym, ap, subst, ◌∙◌, arith}
use Rattle.std.proofs.lemmas.Option.{same_Some}
use Rattle.list_pool.specs.declared.store.PoolSlot.{PoolSlot}
use Rattle.list_pool.specs.declared.store.TheConstants.{END}
use Rattle.list_pool.specs.Pool.{Row, list_at, rows_or_none, cell_at, AreApart}
use Rattle.list_pool.specs.Store.{walk, lists_of, Linked, AreSlotLists}
use Rattle.list_pool.proofs.SlotWalks.{list_at_head, list_in_cell, Linked-one_length}
use Rattle.list_pool.proofs.SlotCells.{row_of, cell_lies}

pub Linked-drop : (s : List PoolSlot) (l at : ℕ) (xs : List Row) (k : ℕ) (x : Row) → Linked s l at xs → slice_get xs k ≡ Some x → (rest : List Row) × Linked s l x.0 rest × (length rest + k ≡ length xs)
Linked-drop s l at [] k x h e = absurd cc
Linked-drop s l at (y ∷ ys) zero x h e = (y ∷ ys, subst (λ (z : ℕ). Linked s l z (y ∷ ys)) (h.1 ∙ ap (λ (r : Row). r.0) (same_Some y x e)) h, omega arith)
Linked-drop s l at (y ∷ ys) (suc k) x h e = let r = Linked-drop s l h.0 ys k x h.3 e in (r.0, r.1, omega (arith, r.2))

-- The cells from a cell on, up to the end of its list.
present : (s : List PoolSlot) (cell name k : ℕ) → AreSlotLists s → cell_at (lists_of s) name k ≡ Some cell → (rest : List Row) × Linked s name cell rest × (length rest + k ≡ length (list_at (lists_of s) name))
present s cell name k ls h =
    let r = row_of s cell name k h in
    let w = walk s r.head.first r.head.len in
    let is : list_at (lists_of s) name ≡ w = ap rows_or_none (list_at_head s name r.head r.is) in
    let q = Linked-drop s name r.head.first w k (cell, r.value) (ls name r.head r.is).linked r.here in
    (q.0, q.1, omega (arith, q.2, ap length is))

pub cells_apart : (s : List PoolSlot) → AreSlotLists s → length s ≤ END → AreApart (lists_of s)
cells_apart s ls few a i b j cell e f =
    let p = cell_lies s cell a i ls few e in
    let q = cell_lies s cell b j ls few f in
    let same : a ≡ b = ap list_in_cell (sym p.lies ∙ q.lies) in
    let u = present s cell a i ls e in
    let v = present s cell b j ls f in
    let count = Linked-one_length s b cell u.0 v.0 few (subst (λ (l : ℕ). Linked s l cell u.0) same u.1) v.1 in
    (same, omega (arith, count, u.2, v.2, ap (λ (l : ℕ). length (list_at (lists_of s) l)) same))
