-- Lemmas: the slot of a cell of a live list, and the slots after a value was appended.
use Rattle.std.proofs.Common.{◌≡◌, ◌≢◌, ℕ, zero, suc, ◌+◌, ◌<◌, ◌≤◌, List, [], ◌∷◌, ◌++◌, length, set, Option, Some, None, slice_get, refl, sym, ap, subst, ◌∙◌, inl, inr, arith, add-one}
use Rattle.std.specs.Option.{option_map}
use Rattle.std.proofs.lemmas.Option.{slice_get_within, same_Some}
use Rattle.std.proofs.lemmas.Bool.{cases_eq}
use Rattle.list_pool.proofs.SlotReads.{slice_get-set_same, slice_get-set_other, sum_by-ge_read, count-le_sum}
use Rattle.list_pool.specs.declared.store.PoolSlot.{PoolSlot}
use Rattle.list_pool.specs.declared.store.PoolSlot.TheVariants.{Free, Head, Cell}
use Rattle.list_pool.specs.declared.store.Head.{Head as HeadRow}
use Rattle.list_pool.specs.declared.store.Cell.{Cell as CellRow}
use Rattle.list_pool.specs.declared.store.Store.{Store}
use Rattle.list_pool.specs.declared.store.TheConstants.{END}
use Rattle.list_pool.specs.Pool.{Row, Updates, slots_of, live_count, find_list, list_at, rows_or_none, cell_at, cell_value_at}
use Rattle.list_pool.specs.Store.{walk, lists_of, next_slot, value_in, Linked, EndsAt, IsUsed, FillsSlot, AreSlotLists, IsStore, IsPool, KeepsCells, Rewrites, ListIs}
use Rattle.std.proofs.lemmas.List.{length_push}
use Rattle.list_pool.proofs.SlotChanges.{Rewrites-then, Rewrites-set, Rewrites-takes, lists_updated, IsPool-changed}
use Rattle.list_pool.proofs.SlotsPlaced.{head_is_no_cell, keeps_takes, keeps_head, keeps_cell, present_pushed, occurs_nowhere}
use Rattle.list_pool.proofs.SlotWalks.{found, find-lists_of, length-walk, cell_of, head_not_cell, list_at_head, list_in_cell}

-- The next cell, or `END` after the last cell.
abbrev pub FollowedBy : ℕ → Option Row → Type 0
FollowedBy next None = next ≡ END
FollowedBy next (Some y) = (next ≡ y.0) × (next < END)

pub Linked-at : (s : List PoolSlot) (l at : ℕ) (xs : List Row) (k : ℕ) (x : Row) → length s ≤ END → Linked s l at xs → slice_get xs k ≡ Some x → (next : ℕ) × (slice_get s x.0 ≡ Some (cell_of l x.1 next)) × FollowedBy next (slice_get xs (suc k))
Linked-at s l at [] k x few h e = absurd cc
Linked-at s l at (y ∷ ys) (suc k) x few h e = Linked-at s l h.0 ys k x few h.3 e
Linked-at s l at (y ∷ ys) zero x few h e =
    let same : y ≡ x = same_Some _ _ e in
    subst (λ (z : Row). (next : ℕ) × (slice_get s z.0 ≡ Some (cell_of l z.1 next)) × FollowedBy next (slice_get ys zero)) same
    (h.0, ap (slice_get s) (sym h.1) ∙ h.2, after ys h.3)
  where
    after : (zs : List Row) → Linked s l h.0 zs → FollowedBy h.0 (slice_get zs zero)
    after [] p = p
    after (z ∷ zs) p = (p.1, omega (arith, slice_get_within s h.0 _ p.2))

-- ---- the row of a cell

pub record RowOf (s : List PoolSlot) (cell name k : ℕ) : Type 0 where
  pub head : HeadRow
  pub is : slice_get s name ≡ Some (Head head)
  pub value : ℕ
  pub here : slice_get (walk s head.first head.len) k ≡ Some (cell, value)

pub row_of : (s : List PoolSlot) (cell name k : ℕ) → cell_at (lists_of s) name k ≡ Some cell → RowOf s cell name k
row_of s cell name k h = by_slot (slice_get s name) refl
  where
    by_row : (hd : HeadRow) → slice_get s name ≡ Some (Head hd) → (o : Option Row) → slice_get (walk s hd.first hd.len) k ≡ o → option_map (λ (x : Row). x.0) o ≡ Some cell → RowOf s cell name k
    by_row hd e None r f = absurd cc
    by_row hd e (Some x) r f = record { head = hd; is = e; value = x.1; here = r ∙ ap (λ (c : ℕ). Some (c, x.1)) (same_Some x.0 cell f) }

    nothing : list_at (lists_of s) name ≡ [] → ⊥
    nothing e =
        let f : option_map (λ (x : Row). x.0) (slice_get [] k) ≡ Some cell = ap (λ (ys : List Row). option_map (λ (x : Row). x.0) (slice_get ys k)) (sym e) ∙ h in
        cc

    by_slot : (p : Option PoolSlot) → slice_get s name ≡ p → RowOf s cell name k
    by_slot (Some (Head hd)) e =
        let is : list_at (lists_of s) name ≡ walk s hd.first hd.len = ap rows_or_none (list_at_head s name hd e) in
        by_row hd e (slice_get (walk s hd.first hd.len) k) refl (ap (λ (ys : List Row). option_map (λ (x : Row). x.0) (slice_get ys k)) (sym is) ∙ h)
    by_slot None e = absurd (nothing (ap rows_or_none (find-lists_of s name ∙ ap (found s) e)))
    by_slot (Some (Free n)) e = absurd (nothing (ap rows_or_none (find-lists_of s name ∙ ap (found s) e)))
    by_slot (Some (Cell c)) e = absurd (nothing (ap rows_or_none (find-lists_of s name ∙ ap (found s) e)))

-- The slot of a cell at a position of a list.
pub record CellLies (s : List PoolSlot) (cell name k : ℕ) : Type 0 where
  pub value : ℕ
  pub next : ℕ
  pub lies : slice_get s cell ≡ Some (cell_of name value next)
  pub has_value : cell_value_at (lists_of s) name k ≡ Some value
  pub last : next ≡ END → cell_at (lists_of s) name (k + 1) ≡ None
  pub not_last : next ≢ END → cell_at (lists_of s) name (k + 1) ≡ Some next

pub cell_lies : (s : List PoolSlot) (cell name k : ℕ) → AreSlotLists s → length s ≤ END → cell_at (lists_of s) name k ≡ Some cell → CellLies s cell name k
cell_lies s cell name k ls few h =
    let r = row_of s cell name k h in
    let w = walk s r.head.first r.head.len in
    let p = Linked-at s name r.head.first w k (cell, r.value) few (ls name r.head r.is).linked r.here in
    let is : list_at (lists_of s) name ≡ w = ap rows_or_none (list_at_head s name r.head r.is) in
    record {
      value = r.value;
      next = p.0;
      lies = p.1;
      has_value = ap (λ (ys : List Row). option_map (λ (y : Row). y.1) (slice_get ys k)) is ∙ ap (option_map (λ (y : Row). y.1)) r.here;
      last = λ q. ap (λ (ys : List Row). option_map (λ (y : Row). y.0) (slice_get ys (k + 1))) is ∙ rw add-one (none (slice_get w (suc k)) p.2 q);
      not_last = λ q. ap (λ (ys : List Row). option_map (λ (y : Row). y.0) (slice_get ys (k + 1))) is ∙ rw add-one (some (slice_get w (suc k)) p.2 q);
    }
  where
    none : {n : ℕ} (o : Option Row) → FollowedBy n o → n ≡ END → option_map (λ (y : Row). y.0) o ≡ None
    none None p q = refl
    none (Some y) p q = absurd (omega arith)

    some : {n : ℕ} (o : Option Row) → FollowedBy n o → n ≢ END → option_map (λ (y : Row). y.0) o ≡ Some n
    some None p q = absurd (q p)
    some (Some y) p q = ap Some (sym p.0)

pub next_row : (a b : CellRow) → Some (Cell a) ≡ Some (Cell b) → b.next ≡ a.next
next_row a b e = sym (ap next_slot e)

pub value_row : (a b : CellRow) → Some (Cell a) ≡ Some (Cell b) → b.value ≡ a.value
value_row a b e = sym (ap value_in e)

pub first_cell : (s : List PoolSlot) (i : ℕ) (h : HeadRow) → slice_get s i ≡ Some (Head h) → (h.len ≡ 0 → ⊥) → cell_at (lists_of s) i 0 ≡ Some h.first
first_cell s i h e ne = ap (λ (o : Option (List Row)). option_map (λ (x : Row). x.0) (slice_get (rows_or_none o) 0)) (list_at_head s i h e) ∙ go h.len ne
  where
    go : (n : ℕ) → (n ≡ 0 → ⊥) → option_map (λ (x : Row). x.0) (slice_get (walk s h.first n) 0) ≡ Some h.first
    go zero f = absurd (f refl)
    go (suc n) f = refl

-- ---- appending a value
pub kept_by_take : (s t : List PoolSlot) (at i : ℕ) (x y : PoolSlot) → FillsSlot s t at x → IsUsed y → slice_get s i ≡ Some y → slice_get t i ≡ Some y
kept_by_take s t at i x y h u e =
    elim (cases_eq i at) [
      | inl same ↦ absurd (h.was_free (y, ap (slice_get s) (sym same) ∙ e, u))
      | inr apart ↦ h.others i apart ∙ e
    ]

pub apart_by_take : (s t : List PoolSlot) (at i : ℕ) (x y : PoolSlot) → FillsSlot s t at x → IsUsed y → slice_get s i ≡ Some y → i ≢ at
apart_by_take s t at i x y h u e same = h.was_free (y, ap (slice_get s) (sym same) ∙ e, u)

-- The last cell of a list is followed by `END`.
pub last_cell : (s : List PoolSlot) (l at last : ℕ) (xs : List Row) → Linked s l at xs → EndsAt last xs → 0 < length xs → (v : ℕ) × (slice_get s last ≡ Some (cell_of l v END))
last_cell s l at last [] h e lt = absurd (omega arith)
last_cell s l at last (x ∷ []) h e lt =
    (x.1, ap (slice_get s) (e ∙ sym h.1) ∙ h.2 ∙ ap (λ (n : ℕ). Some (cell_of l x.1 n)) h.3)
last_cell s l at last (x ∷ (y ∷ ys)) h e lt = last_cell s l h.0 last (y ∷ ys) h.3 e (omega arith)

EndsAt-push : (xs : List Row) (new w : ℕ) → EndsAt new (xs ++ (new, w) ∷ [])
EndsAt-push [] new w = refl
EndsAt-push (x ∷ []) new w = refl
EndsAt-push (x ∷ (y ∷ ys)) new w = EndsAt-push (y ∷ ys) new w

-- The slots are unchanged, except the slot of the last cell, which refers to the new cell then.
abbrev KeepsBut : List PoolSlot → List PoolSlot → ℕ → ℕ → Type 0
KeepsBut s u l last = (i v n : ℕ) → i ≢ last → slice_get s i ≡ Some (cell_of l v n) → slice_get u i ≡ slice_get s i

Linked-push : (s u : List PoolSlot) (l at last v0 new w : ℕ) (xs : List Row) → length s ≤ END → Linked s l at xs → EndsAt last xs → 0 < length xs → slice_get s last ≡ Some (cell_of l v0 END) → slice_get u last ≡ Some (cell_of l v0 new) → slice_get u new ≡ Some (cell_of l w END) → KeepsBut s u l last → Linked u l at (xs ++ (new, w) ∷ [])
Linked-push s u l at last v0 new w [] few h e lt b a n k = absurd (omega arith)
Linked-push s u l at last v0 new w (x ∷ []) few h e lt b a n k =
    let here : slice_get s last ≡ Some (cell_of l x.1 h.0) = ap (slice_get s) (e ∙ sym h.1) ∙ h.2 in
    let v : v0 ≡ x.1 = ap value_in (sym b ∙ here) in
    (new, h.1, ap (slice_get u) (h.1 ∙ sym e) ∙ a ∙ ap (λ (m : ℕ). Some (cell_of l m new)) v, (END, refl, n, refl))
Linked-push s u l at last v0 new w (x ∷ (y ∷ ys)) few h e lt b a n k =
    let ne : at ≢ last = λ same.
    let q : END ≡ h.0 = ap next_slot (sym b ∙ ap (slice_get s) (sym same) ∙ h.2) in
    omega (arith, slice_get_within s h.0 _ h.3.2) in
    (h.0, h.1, k at x.1 h.0 ne h.2 ∙ h.2, Linked-push s u l h.0 last v0 new w (y ∷ ys) few h.3 e (omega arith) b a n k)

pub PushesIn : List PoolSlot → List PoolSlot → ℕ → ℕ → ℕ → HeadRow → Type 0
PushesIn s u l at v h = Rewrites s u l × ListIs u l (Some (walk s h.first h.len ++ (at, v) ∷ [])) × KeepsCells s u at

-- A value is appended to an empty list.
pub push_first : (s t : List PoolSlot) (l at v : ℕ) (h : HeadRow) → slice_get s l ≡ Some (Head h) → h.len ≡ 0 → FillsSlot s t at (cell_of l v END) → PushesIn s (set t l (Head (record { first = at; last = at; len = 1 }))) l at v h
unfolding PushesIn
push_first s t l at v h e z k =
    let hd : PoolSlot = Head (record { first = at; last = at; len = 1 }) in
    let tl = kept_by_take s t at l _ (Head h) k tt e in
    let ne = apart_by_take s t at l _ (Head h) k tt e in
    let here = slice_get-set_same t l hd (slice_get_within t l _ tl) in
    let there : slice_get (set t l hd) at ≡ Some (cell_of l v END) = slice_get-set_other t l at hd (λ q. ne (sym q)) ∙ k.here in
    let none : walk s h.first h.len ≡ [] = ap (walk s h.first) z in (
      Rewrites-then s t _ l (Rewrites-takes s t l at _ k refl) (Rewrites-set t l l (Head h) hd tl refl refl),
      subst (λ (xs : List Row). ListIs (set t l hd) l (Some (xs ++ (at, v) ∷ []))) (sym none)
          (record { first = at; last = at; len = 1 }, here, (END, refl, there, refl), refl, refl),
      keeps_head s t at l (Head h) _ (keeps_takes s t at _ k) tl,
    )

-- A value is appended to a list that isn't empty.
pub push_more : (s t : List PoolSlot) (l at v : ℕ) (h : HeadRow) (c : CellRow) → length s ≤ END → AreSlotLists s → slice_get s l ≡ Some (Head h) → (h.len ≡ 0 → ⊥) → FillsSlot s t at (cell_of l v END) → slice_get t h.last ≡ Some (Cell c) → PushesIn s (set (set t h.last (cell_of c.list c.value at)) l (Head (record { first = h.first; last = at; len = h.len + 1 }))) l at v h
unfolding PushesIn
push_more s t l at v h c few ls e ne k r =
    let w = walk s h.first h.len in
    let is = ls l h e in
    let n : length w ≡ h.len = length-walk s h.first h.len in
    let lc = last_cell s l h.first h.last w is.linked is.ends (omega arith) in
    let kept : slice_get t h.last ≡ Some (cell_of l lc.0 END) = kept_by_take s t at h.last _ (cell_of l lc.0 END) k tt lc.1 in
    let cl : c.list ≡ l = ap list_in_cell (sym r ∙ kept) in
    let cv : c.value ≡ lc.0 = ap value_in (sym r ∙ kept) in
    let x : PoolSlot = cell_of c.list c.value at in
    let hd : PoolSlot = Head (record { first = h.first; last = at; len = h.len + 1 }) in
    let t1 = set t h.last x in
    let u = set t1 l hd in
    let tl : slice_get t l ≡ Some (Head h) = kept_by_take s t at l _ (Head h) k tt e in
    let ll : l ≢ h.last = λ q. head_not_cell _ _ (sym tl ∙ ap (slice_get t) q ∙ r) in
    let t1l : slice_get t1 l ≡ Some (Head h) = slice_get-set_other t h.last l x ll ∙ tl in
    let here : slice_get u l ≡ Some hd = slice_get-set_same t1 l hd (slice_get_within t1 l _ t1l) in
    let al : at ≢ l = λ q. apart_by_take s t at l _ (Head h) k tt e (sym q) in
    let alast : at ≢ h.last = λ q. apart_by_take s t at h.last _ (cell_of l lc.0 END) k tt lc.1 (sym q) in
    let new : slice_get u at ≡ Some (cell_of l v END) = slice_get-set_other t1 l at hd al ∙ slice_get-set_other t h.last at x alast ∙ k.here in
    let last : slice_get u h.last ≡ Some (cell_of l lc.0 at) =
    slice_get-set_other t1 l h.last hd (λ q. ll (sym q)) ∙ slice_get-set_same t h.last x (slice_get_within t h.last _ r) ∙ ap (λ (m : ℕ). Some (cell_of m c.value at)) cl ∙ ap (λ (m : ℕ). Some (cell_of l m at)) cv in
    let others : KeepsBut s u l h.last = λ i val nx ni f.
    slice_get-set_other t1 l i hd (λ q. head_not_cell _ _ (sym e ∙ ap (slice_get s) (sym q) ∙ f)) ∙ slice_get-set_other t h.last i x ni ∙ kept_by_take s t at i _ (cell_of l val nx) k tt f ∙ sym f in (
      Rewrites-then s t _ l (Rewrites-takes s t l at _ k refl) (Rewrites-then t t1 u l (Rewrites-set t l h.last (Cell c) x r cl cl) (Rewrites-set t1 l l (Head h) hd t1l refl refl)),
      (record { first = h.first; last = at; len = h.len + 1 }, here, Linked-push s u l h.first h.last lc.0 at v w few is.linked is.ends (omega arith) lc.1 last new others, EndsAt-push w at v, length_push w (at, v) ∙ ap (λ (m : ℕ). m + 1) n),
      keeps_head s t1 at l (Head h) _ (keeps_cell s t at h.last c.value at c (keeps_takes s t at _ k) r) t1l,
    )

pub no_first_cell : (s : List PoolSlot) (i : ℕ) (h : HeadRow) → slice_get s i ≡ Some (Head h) → h.len ≡ 0 → cell_at (lists_of s) i 0 ≡ None
no_first_cell s i h e z =
    ap (λ (o : Option (List Row)). option_map (λ (x : Row). x.0) (slice_get (rows_or_none o) 0)) (list_at_head s i h e)
    ∙ ap (λ (n : ℕ). option_map (λ (x : Row). x.0) (slice_get (walk s h.first n) 0)) z

-- A live list takes one slot more than its length.
pub slots_of_head : (s : List PoolSlot) (i : ℕ) (h : HeadRow) → slice_get s i ≡ Some (Head h) → slots_of (find_list (lists_of s) i) ≡ h.len + 1
slots_of_head s i h e = ap slots_of (list_at_head s i h e) ∙ ap (λ (n : ℕ). n + 1) (length-walk s h.first h.len)

pub pushes_size : (s : List PoolSlot) (h : HeadRow) (at v : ℕ) → slots_of (Some (walk s h.first h.len ++ (at, v) ∷ [])) ≡ h.len + 2
pushes_size s h at v = omega (arith, length_push {X = Row} (walk s h.first h.len) (at, v), length-walk s h.first h.len)

pub push_lists : (s u : List PoolSlot) (l at v : ℕ) (h : HeadRow) → AreSlotLists s → slice_get s l ≡ Some (Head h) → PushesIn s u l at v h → Updates (lists_of s) (lists_of u) l (Some (list_at (lists_of s) l ++ (at, v) ∷ []))
unfolding PushesIn
push_lists s u l at v h ls e p =
    let w : list_at (lists_of s) l ≡ walk s h.first h.len = ap rows_or_none (list_at_head s l h e) in
    subst (λ (xs : List Row). Updates (lists_of s) (lists_of u) l (Some (xs ++ (at, v) ∷ []))) (sym w) (lists_updated s u l _ ls p.0 p.1)

pub push_pool : (s t : Store) (l at v : ℕ) (h : HeadRow) → IsPool s → IsStore t → slice_get s.items.items l ≡ Some (Head h) → PushesIn s.items.items t.items.items l at v h → length t.items.items + s.free_len ≡ length s.items.items + t.free_len + 1 → IsPool t
unfolding PushesIn
push_pool s t l at v h p st e q n =
    IsPool-changed s t l (Some (walk s.items.items h.first h.len ++ (at, v) ∷ [])) p st q.0 q.1
    (present_pushed s.items.items t.items.items l at v (walk s.items.items h.first h.len) p.placed (ap rows_or_none (list_at_head s.items.items l h e)) q.2)
    (omega (arith, n, slots_of_head s.items.items l h e, pushes_size s.items.items h at v))

-- A list's slots and the free slots are at most all slots.
pub head_fits : (s : Store) (l : ℕ) (h : HeadRow) → IsPool s → slice_get s.items.items l ≡ Some (Head h) → s.free_len + h.len + 1 ≤ length s.items.items
head_fits s l h p e =
    omega (arith, p.total, slots_of_head s.items.items l h e, sum_by-ge_read slots_of (lists_of s.items.items) l refl)

-- A new list is empty, and no other list is changed.
pub make_is : (s t : List PoolSlot) (at : ℕ) → FillsSlot s t at (Head (record { first = END; last = END; len = 0 })) → Rewrites s t at × ListIs t at (Some [])
make_is s t at k = (Rewrites-takes s t at at _ k refl, (record { first = END; last = END; len = 0 }, k.here, refl, tt, refl))

pub fresh_name : (s t : List PoolSlot) (at : ℕ) (x : PoolSlot) → FillsSlot s t at x → find_list (lists_of s) at ≡ None
fresh_name s t at x k = find-lists_of s at ∙ go (slice_get s at) refl
  where
    go : (o : Option PoolSlot) → slice_get s at ≡ o → found s o ≡ None
    go None e = refl
    go (Some (Free n)) e = refl
    go (Some (Head h)) e = absurd (k.was_free (Head h, e, tt))
    go (Some (Cell c)) e = absurd (k.was_free (Cell c, e, tt))

pub make_pool : (s t : Store) (at : ℕ) → IsPool s → IsStore t → FillsSlot s.items.items t.items.items at (Head (record { first = END; last = END; len = 0 })) → length t.items.items + s.free_len ≡ length s.items.items + t.free_len + 1 → IsPool t
make_pool s t at p st k n =
    let q = make_is s.items.items t.items.items at k in
    IsPool-changed s t at (Some []) p st q.0 q.1
    (occurs_nowhere s.items.items t.items.items at p.placed (ap rows_or_none (fresh_name s.items.items t.items.items at _ k))
    (record { kept = keeps_takes s.items.items t.items.items at _ k; gone = λ c f. head_is_no_cell _ c (same_Some _ _ (sym k.here ∙ f)) }))
    (omega (arith, n, ap slots_of (fresh_name s.items.items t.items.items at _ k)))

pub make_lists : (s t : List PoolSlot) (at : ℕ) → AreSlotLists s → FillsSlot s t at (Head (record { first = END; last = END; len = 0 })) → Updates (lists_of s) (lists_of t) at (Some [])
make_lists s t at ls k = let q = make_is s t at k in lists_updated s t at _ ls q.0 q.1

-- There are fewer live names than the limit of slots.
pub live_few : (s : Store) → IsPool s → 1 ≤ s.free_len + s.room → live_count (lists_of s.items.items) < 4294967295
live_few s p spare = omega (arith, p.store.few, p.total, count-le_sum slots_of (λ xs. omega arith) (lists_of s.items.items))

pub set_keeps_head : (t : List PoolSlot) (l i : ℕ) (h : HeadRow) (c : CellRow) (x : PoolSlot) → slice_get t l ≡ Some (Head h) → slice_get t i ≡ Some (Cell c) → slice_get (set t i x) l ≡ Some (Head h)
set_keeps_head t l i h c x e f = slice_get-set_other t i l x (λ q. clash (sym e ∙ ap (slice_get t) q ∙ f)) ∙ e
  where
    clash : Some (Head h) ≡ Some (Cell c) → ⊥
    clash q = cc

-- The cell of an appended value was in no list before.
pub fresh_cell : (s t : List PoolSlot) (at : ℕ) (x : PoolSlot) → length s ≤ END → AreSlotLists s → FillsSlot s t at x → (name k : ℕ) → cell_at (lists_of s) name k ≡ Some at → ⊥
fresh_cell s t at x few ls h name k e = let p = cell_lies s at name k ls few e in h.was_free (cell_of name p.value p.next, p.lies, tt)
