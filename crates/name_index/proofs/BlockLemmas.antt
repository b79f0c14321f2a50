-- Lemmas: blocks, and places in blocks.
use Rattle.std.proofs.Common.{◌≡◌, ◌⊎◌, ℕ, zero, suc, ◌+◌, ◌-◌, ◌<◌, ◌≤◌, Bool, true, false, ◌&&◌, ◌||◌, List, [], ◌∷◌, ◌++◌, length, take, drop, refl, sym, ap, subst, ◌∙◌, inl, inr, append_assoc, arith, take-append-drop, eq-eqb, eqb-true, length-append, length-drop, vec_capacity}
use Rattle.std.specs.Prelude.{nat_eq, nat_lt, nat_le}
use Rattle.std.specs.List.{AllWithin, slice_index_or, slice_set, insert, filter}
use Rattle.std.proofs.lemmas.Bool.{cases_Bool, both_ways, false_from_ne_true, lt-ltb, le-leb}
use Rattle.std.proofs.lemmas.List.{append_cancel_right, length-take-le}
use Rattle.std.proofs.lemmas.List.Elements.{All-from_recursion}
use Rattle.name_index.specs.Blocks.{AllAre, IsParted}
use Rattle.name_index.specs.Places.{Block, flat, IsBlock, AreBlocks, AreFilled, block_at, before, numbers_behind, last_passes, is_preceded}
use Rattle.name_index.proofs.PartedLists.{all_append, all_front, all_back, all_past, parted_front, parted_back, last_true, last_false, last_of_failing, filter_none, filter_middle, only_second, first_passes, second_fails, both_are}
use Rattle.name_index.proofs.Cuts.{take_more, drop_parts}

pub at_is : (bs : List Block) (i : ℕ) (d : Block) → i < length bs → (slice_index_or bs i d).items ≡ block_at bs i
at_is [] i d lt = absurd (omega (arith, lt))
at_is (b ∷ bs) zero d lt = refl
at_is (b ∷ bs) (suc i) d lt = at_is bs i d (omega (arith, lt))

pub filled : (bs : List Block) → AreBlocks bs → AreFilled bs
filled [] h = tt
filled (b ∷ bs) h = (h.0.0, filled bs h.1)

pub at_most : (bs : List Block) (i : ℕ) → AreBlocks bs → length (block_at bs i) ≤ 1024
at_most [] i h = omega arith
at_most (b ∷ bs) zero h = h.0.1
at_most (b ∷ bs) (suc i) h = at_most bs i h.1

pub there : (bs : List Block) (i : ℕ) (d : Block) → AreBlocks bs → i < length bs → IsBlock (slice_index_or bs i d)
there bs i d h lt = All-from_recursion IsBlock bs h i d lt

-- The block that a write at index `i` borrows: it has the numbers of the block at this index.
pub record Lent (bs : List Block) (i : ℕ) (b : Block) : Type 0 where
  pub items : b.items ≡ block_at bs i
  pub block : IsBlock b

pub lent : (bs : List Block) (i : ℕ) (b : Block) → AreBlocks bs → i < length bs → b ≡ slice_index_or bs i b → Lent bs i b
lent bs i b h lt value = record {
  items = ap (λ (u : Block). u.items) value ∙ at_is bs i b lt;
  block = subst IsBlock (sym value) (there bs i b h lt);
}

-- If a block is left, a number is left.
pub some_left : (here : List ℕ) (bs : List Block) (last : List ℕ) → AreFilled bs → nat_eq (length bs) 0 ≡ false → nat_eq (length (here ++ (flat bs ++ last))) 0 ≡ false
some_left here [] last h fails = absurd (both_ways _ fails refl)
some_left here (b ∷ bs) last h fails =
    false_from_ne_true _ (λ is. absurd (omega (arith, eqb-true _ _ is, h.0, length-append here (flat (b ∷ bs) ++ last), length-append (flat (b ∷ bs)) last, length-append b.items (flat bs))))

pub filled_take : (bs : List Block) (n : ℕ) → AreFilled bs → AreFilled (take n bs)
filled_take [] zero h = tt
filled_take [] (suc n) h = tt
filled_take (b ∷ bs) zero h = tt
filled_take (b ∷ bs) (suc n) h = (h.0, filled_take bs n h.1)

pub filled_drop : (bs : List Block) (n : ℕ) → AreFilled bs → AreFilled (drop n bs)
filled_drop bs zero h = h
filled_drop [] (suc n) h = tt
filled_drop (b ∷ bs) (suc n) h = filled_drop bs n h.1

-- ---- the end of a test

module _ (p : ℕ → Bool) where
  abbrev pub ends : Block → Bool
  ends b = last_passes p b.items

  blocks_fail : (bs : List Block) → AreFilled bs → AllAre p false (flat bs) → AllAre ends false bs
  blocks_fail [] some h = tt
  blocks_fail (b ∷ bs) some h = (last_of_failing p b.items some.0 (all_front (λ y. p y ≡ false) b.items (flat bs) h), blocks_fail bs some.1 (all_back (λ y. p y ≡ false) b.items (flat bs) h))

  pub blocks_parted : (bs : List Block) → AreFilled bs → IsParted p (flat bs) → IsParted ends bs
  blocks_parted [] some s = tt
  blocks_parted (b ∷ bs) some s = (λ no. blocks_fail bs some.1 (last_false p b.items (flat bs) some.0 s no), blocks_parted bs some.1 (parted_back p b.items (flat bs) s))

  pub block_parted : (bs : List Block) (i : ℕ) → IsParted p (flat bs) → IsParted p (block_at bs i)
  block_parted [] i s = tt
  block_parted (b ∷ bs) zero s = parted_front p b.items (flat bs) s
  block_parted (b ∷ bs) (suc i) s = block_parted bs i (parted_back p b.items (flat bs) s)

  pub passing_blocks : (bs : List Block) (i : ℕ) → IsParted p (flat bs) → AllWithin (λ b. ends b ≡ true) bs 0 i → i ≤ length bs → AllAre p true (before bs i 0)
  passing_blocks [] i s h le = tt
  passing_blocks (b ∷ bs) zero s h le = tt
  passing_blocks (b ∷ bs) (suc i) s h le =
      all_append (λ y. p y ≡ true) b.items (before bs i 0) (last_true p b.items (parted_front p b.items (flat bs) s) (h 0 b (omega arith) (omega arith)))
      (passing_blocks bs i (parted_back p b.items (flat bs) s) (λ k d low high. h (suc k) d (omega arith) (omega (arith, high))) (omega (arith, le)))

  pub failing_blocks : (bs : List Block) (i : ℕ) → AreFilled bs → IsParted p (flat bs) → AllWithin (λ b. ends b ≡ false) bs i (length bs) → i < length bs → AllAre p false (numbers_behind bs i (length (block_at bs i)))
  failing_blocks [] i some s h lt = tt
  failing_blocks (b ∷ bs) zero some s h lt =
      all_append (λ y. p y ≡ false) (drop (length b.items) b.items) (flat bs) (all_past (λ y. p y ≡ false) b.items) (last_false p b.items (flat bs) some.0 s (h 0 b (omega arith) (omega arith)))
  failing_blocks (b ∷ bs) (suc i) some s h lt =
      failing_blocks bs i some.1 (parted_back p b.items (flat bs) s) (λ k d low high. h (suc k) d (omega (arith, low)) (omega (arith, high))) (omega (arith, lt))

  -- No number follows the last block.
  pub none_behind : (bs : List Block) (i : ℕ) → suc i ≡ length bs → AllAre p false (numbers_behind bs i (length (block_at bs i)))
  none_behind [] i e = tt
  none_behind (b ∷ []) zero e = all_append (λ y. p y ≡ false) (drop (length b.items) b.items) [] (all_past (λ y. p y ≡ false) b.items) tt
  none_behind (b ∷ c ∷ bs) zero e = absurd (omega (arith, e))
  none_behind (b ∷ bs) (suc i) e = none_behind bs i (omega (arith, e))

  -- If the last number passes, all numbers pass; if the first number fails, none passes.
  pub all_passing : (bs : List Block) (last : ℕ) → length bs ≡ suc last → AreFilled bs → IsParted p (flat bs) → last_passes p (block_at bs last) ≡ true → AllAre p true (flat bs)
  all_passing [] last e some s h = tt
  all_passing (b ∷ []) zero e some s h = all_append (λ y. p y ≡ true) b.items [] (last_true p b.items (parted_front p b.items [] s) h) tt
  all_passing (b ∷ []) (suc last) e some s h = absurd (omega (arith, e))
  all_passing (b ∷ c ∷ bs) zero e some s h = absurd (omega (arith, e))
  all_passing (b ∷ c ∷ bs) (suc last) e some s h =
      let rest = all_passing (c ∷ bs) last (omega (arith, e)) some.1 (parted_back p b.items (flat (c ∷ bs)) s) h in
      all_append (λ y. p y ≡ true) b.items (flat (c ∷ bs)) (last_true p b.items (parted_front p b.items (flat (c ∷ bs)) s) (passes rest)) rest
    where
      not_both : (xs : List ℕ) → 0 < length xs → AllAre p true xs → AllAre p false xs → ⊥
      not_both [] some h k = absurd (omega (arith, some))
      not_both (x ∷ xs) some h k = both_ways _ k.0 h.0

      passes : AllAre p true (flat (c ∷ bs)) → last_passes p b.items ≡ true
      passes rest = elim (cases_Bool (last_passes p b.items)) [
        | inl yes_ ↦ yes_
        | inr no_ ↦
            absurd (not_both c.items some.1.0 (all_front (λ y. p y ≡ true) c.items (flat bs) rest) (all_front (λ y. p y ≡ false) c.items (flat bs) (last_false p b.items (flat (c ∷ bs)) some.0 s no_)))
      ]

  pub none_passing : (bs : List Block) → 1 ≤ length (block_at bs 0) → IsParted p (flat bs) → p (slice_index_or (block_at bs 0) 0 0) ≡ false → AllAre p false (flat bs)
  none_passing [] some s h = tt
  none_passing (b ∷ bs) some s h = by b.items some s h
    where
      by : (xs : List ℕ) → 1 ≤ length xs → IsParted p (xs ++ flat bs) → p (slice_index_or xs 0 0) ≡ false → AllAre p false (xs ++ flat bs)
      by [] some s h = absurd (omega (arith, some))
      by (x ∷ xs) some s h = (h, s.0 h)

  pub place_passing : (bs : List Block) (i at : ℕ) → AllAre p true (before bs i 0) → AllAre p true (take at (block_at bs i)) → AllAre p true (before bs i at)
  place_passing [] i at h k = tt
  place_passing (b ∷ bs) zero at h k = k
  place_passing (b ∷ bs) (suc i) at h k =
      all_append (λ y. p y ≡ true) b.items (before bs i at) (all_front (λ y. p y ≡ true) b.items (before bs i 0) h) (place_passing bs i at (all_back (λ y. p y ≡ true) b.items (before bs i 0) h) k)

  pub place_failing : (bs : List Block) (i at : ℕ) → AllAre p false (numbers_behind bs i (length (block_at bs i))) → AllAre p false (drop at (block_at bs i)) → AllAre p false (numbers_behind bs i at)
  place_failing [] i at h k = tt
  place_failing (b ∷ bs) zero at h k = all_append (λ y. p y ≡ false) (drop at b.items) (flat bs) k (all_back (λ y. p y ≡ false) (drop (length b.items) b.items) (flat bs) h)
  place_failing (b ∷ bs) (suc i) at h k = place_failing bs i at h k

-- ---- pieces

pub whole : (bs : List Block) (i at : ℕ) → i < length bs → flat bs ≡ before bs i at ++ numbers_behind bs i at
whole [] i at lt = absurd (omega (arith, lt))
whole (b ∷ bs) zero at lt = ap (λ (u : List ℕ). u ++ flat bs) (sym (take-append-drop at b.items)) ∙ append_assoc (take at b.items) (drop at b.items) (flat bs)
whole (b ∷ bs) (suc i) at lt = ap (λ (u : List ℕ). b.items ++ u) (whole bs i at (omega (arith, lt))) ∙ sym (append_assoc b.items (before bs i at) (numbers_behind bs i at))

-- The numbers between two places in one block.
pub within_front : (bs : List Block) (i from to : ℕ) → i < length bs → from ≤ to → before bs i to ≡ before bs i from ++ take (to - from) (drop from (block_at bs i))
within_front [] i from to lt le = absurd (omega (arith, lt))
within_front (b ∷ bs) zero from to lt le = take_more b.items from (to - from) to (omega (arith, le))
within_front (b ∷ bs) (suc i) from to lt le =
    ap (λ (u : List ℕ). b.items ++ u) (within_front bs i from to (omega (arith, lt)) le) ∙ sym (append_assoc b.items (before bs i from) (take (to - from) (drop from (block_at bs i))))

pub within_back : (bs : List Block) (i from to : ℕ) → i < length bs → from ≤ to → numbers_behind bs i from ≡ take (to - from) (drop from (block_at bs i)) ++ numbers_behind bs i to
within_back [] i from to lt le = absurd (omega (arith, lt))
within_back (b ∷ bs) zero from to lt le =
    ap (λ (u : List ℕ). u ++ flat bs) (drop_parts b.items from (to - from) to (omega (arith, le))) ∙ append_assoc (take (to - from) (drop from b.items)) (drop to b.items) (flat bs)
within_back (b ∷ bs) (suc i) from to lt le = within_back bs i from to (omega (arith, lt)) le

front_is : (bs : List Block) (j at : ℕ) → j < length bs → before bs j at ≡ flat (take j bs) ++ take at (block_at bs j)
front_is [] j at lt = absurd (omega (arith, lt))
front_is (b ∷ bs) zero at lt = refl
front_is (b ∷ bs) (suc j) at lt = ap (λ (u : List ℕ). b.items ++ u) (front_is bs j at (omega (arith, lt))) ∙ sym (append_assoc b.items (flat (take j bs)) (take at (block_at bs j)))

-- the numbers between two places in different blocks: the rest of the first block, the blocks between, and a prefix of
-- the second block
abbrev pub over : List Block → ℕ → ℕ → ℕ → ℕ → ℕ → ℕ → List ℕ
over bs i from k n j to = drop from (block_at bs i) ++ (flat (take n (drop k bs)) ++ take to (block_at bs j))

pub over_back : (bs : List Block) (i k n j from to : ℕ) → k ≡ i + 1 → j ≡ k + n → j < length bs → numbers_behind bs i from ≡ over bs i from k n j to ++ numbers_behind bs j to
over_back [] i k n j from to e f lt = absurd (omega (arith, lt))
over_back (b ∷ bs) i zero n j from to e f lt = absurd (omega (arith, e))
over_back (b ∷ bs) i (suc k) n zero from to e f lt = absurd (omega (arith, f))
over_back (b ∷ bs) zero (suc (suc k)) n (suc j) from to e f lt = absurd (omega (arith, e))
over_back (b ∷ bs) zero (suc zero) n (suc j) from to e f lt =
    let same : j ≡ n = omega (arith, f) in
    let rest = flat (take n bs) ++ take to (block_at bs j) in
    let front : before bs j to ≡ rest = front_is bs j to (omega (arith, lt)) ∙ ap (λ (m : ℕ). flat (take m bs) ++ take to (block_at bs j)) same in
    ap (λ (u : List ℕ). drop from b.items ++ u) (whole bs j to (omega (arith, lt)) ∙ ap (λ (u : List ℕ). u ++ numbers_behind bs j to) front)
    ∙ sym (append_assoc (drop from b.items) rest (numbers_behind bs j to))
over_back (b ∷ bs) (suc i) (suc k) n (suc j) from to e f lt = over_back bs i k n j from to (omega (arith, e)) (omega (arith, f)) (omega (arith, lt))

pub over_front : (bs : List Block) (i k n j from to : ℕ) → k ≡ i + 1 → j ≡ k + n → j < length bs → before bs j to ≡ before bs i from ++ over bs i from k n j to
over_front bs i k n j from to e f lt =
    append_cancel_right (before bs j to) (before bs i from ++ over bs i from k n j to) (numbers_behind bs j to)
    (sym (whole bs j to lt) ∙ whole bs i from (omega (arith, e, f, lt)) ∙ ap (λ (u : List ℕ). before bs i from ++ u) (over_back bs i k n j from to e f lt)
    ∙ sym (append_assoc (before bs i from) (over bs i from k n j to) (numbers_behind bs j to)))

-- ---- the numbers between the ends of two tests

lt_or_same : (m n : ℕ) → m ≤ n → (m < n) ⊎ (m ≡ n)
lt_or_same zero zero h = inr refl
lt_or_same zero (suc n) h = inl (omega arith)
lt_or_same (suc m) zero h = absurd (omega (arith, h))
lt_or_same (suc m) (suc n) h = elim (lt_or_same m n (omega (arith, h))) [ inl lt ↦ inl (omega (arith, lt)) | inr same ↦ inr (ap suc same) ]

le_or_lt : (m n : ℕ) → (m ≤ n) ⊎ (n < m)
le_or_lt zero n = inl (omega arith)
le_or_lt (suc m) zero = inr (omega arith)
le_or_lt (suc m) (suc n) = elim (le_or_lt m n) [ inl le ↦ inl (omega (arith, le)) | inr lt ↦ inr (omega (arith, lt)) ]

module _ (p q : ℕ → Bool) (bs : List Block) (i j from to : ℕ) (inside : i < length bs) (passing : AllAre p true (before bs i from)) (failing : AllAre p false (numbers_behind bs i from)) (passing_second : AllAre q true (before bs j to)) (failing_second : AllAre q false (numbers_behind bs j to)) where
  pub between_is : (piece : List ℕ) → before bs j to ≡ before bs i from ++ piece → numbers_behind bs i from ≡ piece ++ numbers_behind bs j to → piece ≡ filter (only_second p q) (flat bs)
  between_is piece front back =
      let fails = all_front (λ y. p y ≡ false) piece (numbers_behind bs j to) (subst (AllAre p false) back failing) in
      let passes = all_back (λ y. q y ≡ true) (before bs i from) piece (subst (AllAre q true) front passing_second) in
      sym (filter_middle (only_second p q) (before bs i from) piece (numbers_behind bs j to) (first_passes p q (before bs i from) passing) (both_are p q piece fails passes) (second_fails p q (numbers_behind bs j to) failing_second))
      ∙ ap (filter (only_second p q)) (sym (whole bs i from inside ∙ ap (λ (u : List ℕ). before bs i from ++ u) back))

  none_between : AllAre q false (numbers_behind bs i from) → [] ≡ filter (only_second p q) (flat bs)
  none_between fails =
      sym (filter_none (only_second p q) (before bs i from ++ numbers_behind bs i from) (all_append (λ y. only_second p q y ≡ false) (before bs i from) (numbers_behind bs i from) (first_passes p q (before bs i from) passing) (second_fails p q (numbers_behind bs i from) fails)))
      ∙ ap (filter (only_second p q)) (sym (whole bs i from inside))

  later_block : j < i → [] ≡ filter (only_second p q) (flat bs)
  later_block lt =
      let n = i - (j + 1) in
      let part = over bs j to (j + 1) n i from in
      none_between (all_back (λ y. q y ≡ false) part (numbers_behind bs i from) (subst (AllAre q false) (over_back bs j (j + 1) n i to from refl (omega (arith, lt)) inside) failing_second))

  later_place : i ≡ j → to ≤ from → [] ≡ filter (only_second p q) (flat bs)
  later_place same le =
      let part = take (from - to) (drop to (block_at bs i)) in
      let fails : AllAre q false (numbers_behind bs i to) = subst (λ (k : ℕ). AllAre q false (numbers_behind bs k to)) (sym same) failing_second in
      none_between (all_back (λ y. q y ≡ false) part (numbers_behind bs i from) (subst (AllAre q false) (within_back bs i to from inside le) fails))

  pub reversed : is_preceded i from j to ≡ false → [] ≡ filter (only_second p q) (flat bs)
  reversed h = elim (cases_Bool (nat_lt i j)) [
    | inl less ↦ absurd (both_ways _ h (ap (λ (b : Bool). b || (nat_eq i j && nat_le from to)) less))
    | inr not_less ↦ elim (lt_or_same j i (not_above not_less (le_or_lt j i))) [
      | inl lt ↦ later_block lt
      | inr same ↦ later_place (sym same) (place_le not_less (sym same))
    ]
  ]
    where
      not_above : nat_lt i j ≡ false → (j ≤ i) ⊎ (i < j) → j ≤ i
      not_above f (inl le) = le
      not_above f (inr lt) = absurd (both_ways _ f (lt-ltb i j lt))

      place_le : nat_lt i j ≡ false → i ≡ j → to ≤ from
      place_le f same =
          let at : nat_le from to ≡ false = ap (λ (b : Bool). b && nat_le from to) (sym (eq-eqb i j same)) ∙ ap (λ (b : Bool). b || (nat_eq i j && nat_le from to)) (sym f) ∙ h in
          by (le_or_lt to from) at
        where
          by : (to ≤ from) ⊎ (from < to) → nat_le from to ≡ false → to ≤ from
          by (inl le) f = le
          by (inr lt) f = absurd (both_ways _ f (le-leb from to (omega (arith, lt))))

-- ---- inserting a number

module _ (v : Block) where
  pub put_flat : (bs : List Block) (i at n : ℕ) → i < length bs → v.items ≡ insert (block_at bs i) at n → flat (slice_set bs i v) ≡ before bs i at ++ (n ∷ numbers_behind bs i at)
  put_flat [] i at n lt e = absurd (omega (arith, lt))
  put_flat (b ∷ bs) zero at n lt e = ap (λ (u : List ℕ). u ++ flat bs) e ∙ append_assoc (take at b.items) (n ∷ drop at b.items) (flat bs)
  put_flat (b ∷ bs) (suc i) at n lt e = ap (λ (u : List ℕ). b.items ++ u) (put_flat bs i at n (omega (arith, lt)) e) ∙ sym (append_assoc b.items (before bs i at) (n ∷ numbers_behind bs i at))

  pub put_blocks : (bs : List Block) (i : ℕ) → AreBlocks bs → IsBlock v → AreBlocks (slice_set bs i v)
  put_blocks [] i h k = tt
  put_blocks (b ∷ bs) zero h k = (k, h.1)
  put_blocks (b ∷ bs) (suc i) h k = (h.0, put_blocks bs i h.1 k)

pub put_block : (b v : Block) (at n : ℕ) → IsBlock b → length b.items < 1024 → at ≤ length b.items → v.items ≡ insert b.items at n → vec_capacity b ≤ vec_capacity v → IsBlock v
put_block b v at n h space le e c =
    let long : length v.items ≡ length b.items + 1 = ap length e ∙ omega (arith, length-append (take at b.items) (n ∷ drop at b.items), length-take-le at b.items le, length-drop at b.items, le) in
    (omega (arith, long), omega (arith, long, space), omega (arith, h.2, c))
