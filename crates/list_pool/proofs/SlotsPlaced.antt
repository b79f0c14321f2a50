-- Lemmas: each cell is in the list that it names, also after one list was changed.
use Rattle.std.proofs.Common.{◌≡◌, ◌≢◌, ℕ, zero, suc, List, [], ◌∷◌, ◌++◌, length, set, Option, Some, None, slice_get, refl, sym, ap, subst, ◌∙◌, inl, inr, Bool, cond, eqb, true, false}
use Rattle.std.specs.Option.{option_map}
use Rattle.std.proofs.lemmas.Option.{slice_get_within, same_Some}
use Rattle.std.proofs.lemmas.Bool.{cases_eq}
use Rattle.list_pool.proofs.SlotReads.{slice_get-set_same, slice_get-set_other, slice_get_push}
use Rattle.list_pool.specs.declared.store.PoolSlot.{PoolSlot}
use Rattle.list_pool.specs.declared.store.PoolSlot.TheVariants.{Free, Head, Cell}
use Rattle.list_pool.specs.declared.store.Head.{Head as HeadRow}
use Rattle.list_pool.specs.declared.store.Cell.{Cell as CellRow}
use Rattle.list_pool.specs.Pool.{Row, list_at, without_first_cell}
use Rattle.list_pool.specs.Store.{lists_of, FillsSlot, AreCellsInLists, IsCellIn, KeepsCells, LosesCell, find_in}
use Rattle.list_pool.proofs.SlotWalks.{cell_of}

-- ---- cells that stay cells

pub head_is_no_cell : (h : HeadRow) (c : CellRow) → Head h ≡ Cell c → ⊥
head_is_no_cell h c e = cc

pub free_is_no_cell : (n : ℕ) (c : CellRow) → Free n ≡ Cell c → ⊥
free_is_no_cell n c e = cc

abbrev list_of_slot : PoolSlot → ℕ
list_of_slot (Cell c) = c.list
list_of_slot _ = 0

pub keeps_same : (s : List PoolSlot) (at : ℕ) → KeepsCells s s at
keeps_same s at i c ne e = (c, e, refl)

pub keeps_takes : (s t : List PoolSlot) (at : ℕ) (x : PoolSlot) → FillsSlot s t at x → KeepsCells s t at
keeps_takes s t at x k i c ne e = (c, sym (k.others i ne) ∙ e, refl)

pub keeps_at : (s t : List PoolSlot) (at : ℕ) (x : PoolSlot) → KeepsCells s t at → KeepsCells s (set t at x) at
keeps_at s t at x k i c ne e = k i c ne (sym (slice_get-set_other t at i x ne) ∙ e)

keeps_set : (s t : List PoolSlot) (at i : ℕ) (o x : PoolSlot) → KeepsCells s t at → slice_get t i ≡ Some o → ((c : CellRow) → x ≡ Cell c → (d : CellRow) × (o ≡ Cell d) × (d.list ≡ c.list)) → KeepsCells s (set t i x) at
keeps_set s t at i o x k e is j c ne f = elim (cases_eq j i) [
  | inl same ↦
      let q = is c (same_Some x (Cell c) (sym (slice_get-set_same t i x (slice_get_within t i o e)) ∙ ap (slice_get (set t i x)) (sym same) ∙ f)) in
      let r = k j q.0 ne (ap (slice_get t) same ∙ e ∙ ap Some q.1) in
      (r.0, r.1, r.2 ∙ q.2)
  | inr apart ↦ k j c ne (sym (slice_get-set_other t i j x apart) ∙ f)
]

pub keeps_head : (s t : List PoolSlot) (at i : ℕ) (o : PoolSlot) (h : HeadRow) → KeepsCells s t at → slice_get t i ≡ Some o → KeepsCells s (set t i (Head h)) at
keeps_head s t at i o h k e = keeps_set s t at i o (Head h) k e (λ c f. absurd (head_is_no_cell h c f))

pub keeps_cell : (s t : List PoolSlot) (at i value next : ℕ) (d : CellRow) → KeepsCells s t at → slice_get t i ≡ Some (Cell d) → KeepsCells s (set t i (cell_of d.list value next)) at
keeps_cell s t at i value next d k e = keeps_set s t at i (Cell d) (cell_of d.list value next) k e (λ c f. (d, refl, ap list_of_slot f))

-- A slot becomes free, so its cell is removed.
pub loses : (s t : List PoolSlot) (at n : ℕ) (o : PoolSlot) → KeepsCells s t at → slice_get t at ≡ Some o → LosesCell s (set t at (Free n)) at
loses s t at n o k e = record {
  kept = keeps_at s t at (Free n) k;
  gone = λ c f. free_is_no_cell n c (same_Some _ _ (sym (slice_get-set_same t at (Free n) (slice_get_within t at o e)) ∙ f));
}

-- ---- the lists of the cells

pub present_kept : (s t : List PoolSlot) (at l i : ℕ) (c : CellRow) (rows : List Row) → AreCellsInLists s → list_at (lists_of s) l ≡ rows → KeepsCells s t at → i ≢ at → slice_get t i ≡ Some (Cell c) → c.list ≡ l → IsCellIn i rows
present_kept s t at l i c rows p e k ne f same =
    let q = k i c ne f in
    subst (IsCellIn i) (ap (list_at (lists_of s)) (q.2 ∙ same) ∙ e) (p i q.0 q.1)

is_preceded : (i k : ℕ) (x : Row) (rows : List Row) → option_map (λ (y : Row). y.0) (slice_get rows k) ≡ Some i → option_map (λ (y : Row). y.0) (slice_get (rows ++ x ∷ []) k) ≡ Some i
is_preceded i k x [] e = absurd cc
is_preceded i zero x (y ∷ ys) e = e
is_preceded i (suc k) x (y ∷ ys) e = is_preceded i k x ys e

pub present_pushed : (s t : List PoolSlot) (l at v : ℕ) (rows : List Row) → AreCellsInLists s → list_at (lists_of s) l ≡ rows → KeepsCells s t at → (i : ℕ) (c : CellRow) → slice_get t i ≡ Some (Cell c) → c.list ≡ l → IsCellIn i (rows ++ (at, v) ∷ [])
present_pushed s t l at v rows p e k i c f same = elim (cases_eq i at) [
  | inl is ↦ (length rows, ap (option_map (λ (y : Row). y.0)) (slice_get_push {X = Row} rows (at, v)) ∙ ap Some (sym is))
  | inr ne ↦ let q = present_kept s t at l i c rows p e k ne f same in (q.0, is_preceded i q.0 (at, v) rows q.1)
]

abbrev second : Option (ℕ × ℕ) → ℕ
second (Some p) = p.1
second None = 0

present_without : (v b p a i : ℕ) (rows : List Row) → find_in v b rows ≡ Some (p, a) → i ≢ a → IsCellIn i rows → IsCellIn i (without_first_cell v rows)
present_without v b p a i [] e ne st = absurd cc
present_without v b p a i (x ∷ xs) e ne st = go (present_without v x.0 p a i xs) (eqb x.1 v) e st.0 st.1
  where
    go : (find_in v x.0 xs ≡ Some (p, a) → i ≢ a → IsCellIn i xs → IsCellIn i (without_first_cell v xs)) → (d : Bool) → cond d (Some (b, x.0)) (find_in v x.0 xs) ≡ Some (p, a) → (k : ℕ) → option_map (λ (y : Row). y.0) (slice_get (x ∷ xs) k) ≡ Some i → IsCellIn i (cond d xs (x ∷ without_first_cell v xs))
    go r true f zero g = absurd (ne (sym (same_Some x.0 i g) ∙ ap second f))
    go r true f (suc k) g = (k, g)
    go r false f zero g = (zero, g)
    go r false f (suc k) g = let q = r f ne (k, g) in (suc q.0, q.1)

pub present_removed : (s t : List PoolSlot) (l v b p a : ℕ) (rows : List Row) → AreCellsInLists s → list_at (lists_of s) l ≡ rows → find_in v b rows ≡ Some (p, a) → LosesCell s t a → (i : ℕ) (c : CellRow) → slice_get t i ≡ Some (Cell c) → c.list ≡ l → IsCellIn i (without_first_cell v rows)
present_removed s t l v b p a rows q e g k i c f same = elim (cases_eq i a) [
  | inl is ↦ absurd (k.gone c (ap (slice_get t) (sym is) ∙ f))
  | inr ne ↦ present_without v b p a i rows g ne (present_kept s t a l i c rows q e k.kept ne f same)
]

-- No cell names a list that had no cells.
pub occurs_nowhere : (s t : List PoolSlot) (l : ℕ) → AreCellsInLists s → list_at (lists_of s) l ≡ [] → LosesCell s t l → (i : ℕ) (c : CellRow) → slice_get t i ≡ Some (Cell c) → c.list ≡ l → IsCellIn i []
occurs_nowhere s t l p e k i c f same = elim (cases_eq i l) [
  | inl is ↦ absurd (k.gone c (ap (slice_get t) (sym is) ∙ f))
  | inr ne ↦ present_kept s t l l i c [] p e k.kept ne f same
]
