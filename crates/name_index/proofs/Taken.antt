-- Lemmas: a number is removed from its block.
use Rattle.std.proofs.Common.{◌≡◌, ℕ, zero, suc, ◌+◌, ◌<◌, ◌≤◌, Bool, true, false, not, ◌||◌, cond, List, [], ◌∷◌, ◌++◌, length, take, drop, Some, None, refl, sym, ap, subst, ◌∙◌, inl, inr, append_assoc, arith, eqb-true, length-append, length-drop, get_or, vec_capacity}
use Rattle.std.specs.Prelude.{nat_eq}
use Rattle.std.specs.List.{Contains, list_any, position, position_or_len, slice_index_or, slice_set, remove}
use Rattle.std.proofs.lemmas.Bool.{cases_Bool, cases_lt, lt-ltb, eq-eqb}
use Rattle.std.proofs.lemmas.Option.{none-some}
use Rattle.std.proofs.lemmas.List.{length-take-le}
use Rattle.std.proofs.lemmas.List.Folds.{list_any-append, list_any_at}
use Rattle.std.proofs.lemmas.List.Quantifiers.{position-Some}
use Rattle.name_index.specs.Blocks.{AllAre}
use Rattle.name_index.specs.Places.{Block, flat, IsBlock, AreBlocks, block_at, before, numbers_behind}
use Rattle.name_index.proofs.PartedLists.{all_append}
use Rattle.name_index.proofs.BlockLemmas.{at_is, lent}

-- ---- where the number is

module _ {X : Type 0} (p : X → Bool) where
  past : (xs : List X) → length xs ≤ position_or_len p xs → list_any p xs ≡ false
  past [] h = refl
  past (x ∷ xs) h = elim (cases_Bool (p x)) [
    | inl t ↦ absurd (omega (arith, h, ap {B = ℕ} (λ (b : Bool). cond (not b) (1 + position_or_len p xs) 0) t))
    | inr f ↦ ap (λ (b : Bool). b || list_any p xs) f ∙ past xs (omega (arith, h, ap {B = ℕ} (λ (b : Bool). cond (not b) (1 + position_or_len p xs) 0) f))
  ]

  pub none_in : (xs : List X) → position p xs ≡ None → list_any p xs ≡ false
  none_in xs h = elim (cases_lt (position_or_len p xs) (length xs)) [
    | inl lt ↦ absurd (none-some (position_or_len p xs) (sym h ∙ ap (λ (b : Bool). cond b (Some (position_or_len p xs)) None) (lt-ltb _ _ lt)))
    | inr le ↦ past xs le
  ]

  pub none_failing : (xs : List X) → AllAre p false xs → list_any p xs ≡ false
  none_failing [] h = refl
  none_failing (x ∷ xs) h = ap (λ (b : Bool). b || list_any p xs) h.0 ∙ none_failing xs h.1

drop_first : (xs : List ℕ) (i k : ℕ) → k ≡ i + 1 → i < length xs → drop i xs ≡ get_or xs i 0 ∷ drop k xs
drop_first [] i k e lt = absurd (omega (arith, lt))
drop_first (x ∷ xs) i zero e lt = absurd (omega (arith, e))
drop_first (x ∷ xs) zero (suc zero) e lt = refl
drop_first (x ∷ xs) zero (suc (suc k)) e lt = absurd (omega (arith, e))
drop_first (x ∷ xs) (suc i) (suc k) e lt = drop_first xs i k (omega (arith, e)) (omega (arith, lt))

abbrev pub is : ℕ → ℕ → Bool
is n x = nat_eq x n

pub inside : (n : ℕ) (xs : List ℕ) (i : ℕ) → position (is n) xs ≡ Some i → i < length xs
inside n xs i h = (position-Some (is n) xs i 0 h).0

pub found : (n : ℕ) (xs : List ℕ) (i : ℕ) → position (is n) xs ≡ Some i → drop i xs ≡ n ∷ drop (i + 1) xs
found n xs i h =
    let p = position-Some (is n) xs i 0 h in
    drop_first xs i (i + 1) refl p.0 ∙ ap (λ (x : ℕ). x ∷ drop (i + 1) xs) (eqb-true (get_or xs i 0) n p.1)

pub found_behind : (bs : List Block) (i at n : ℕ) → i < length bs → drop at (block_at bs i) ≡ n ∷ drop (at + 1) (block_at bs i) → numbers_behind bs i at ≡ n ∷ numbers_behind bs i (at + 1)
found_behind [] i at n lt h = absurd (omega (arith, lt))
found_behind (b ∷ bs) zero at n lt h = ap (λ (u : List ℕ). u ++ flat bs) h
found_behind (b ∷ bs) (suc i) at n lt h = found_behind bs i at n (omega (arith, lt)) h

-- ---- from one block to the next

from_start : (bs : List Block) → flat bs ≡ numbers_behind bs 0 0
from_start [] = refl
from_start (b ∷ bs) = refl

one_block : (bs : List Block) (i k : ℕ) → k ≡ i + 1 → i < length bs → numbers_behind bs i 0 ≡ block_at bs i ++ numbers_behind bs k 0
one_block [] i k e lt = absurd (omega (arith, lt))
one_block (b ∷ bs) i zero e lt = absurd (omega (arith, e))
one_block (b ∷ bs) zero (suc zero) e lt = ap (λ (u : List ℕ). b.items ++ u) (from_start bs)
one_block (b ∷ bs) zero (suc (suc k)) e lt = absurd (omega (arith, e))
one_block (b ∷ bs) (suc i) (suc k) e lt = one_block bs i k (omega (arith, e)) (omega (arith, lt))

pub next_block : (p : ℕ → Bool) (bs : List Block) (i : ℕ) → i < length bs → list_any p (block_at bs i) ≡ false → list_any p (numbers_behind bs i 0) ≡ true → list_any p (numbers_behind bs (i + 1) 0) ≡ true
next_block p bs i lt none h =
    sym (ap (λ (b : Bool). b || list_any p (numbers_behind bs (i + 1) 0)) none) ∙ sym (list_any-append p (block_at bs i) (numbers_behind bs (i + 1) 0)) ∙ sym (ap (list_any p) (one_block bs i (i + 1) refl lt)) ∙ h

no_block : (p : ℕ → Bool) (bs : List Block) (i : ℕ) → length bs ≤ i → list_any p (numbers_behind bs i 0) ≡ false
no_block p [] i le = refl
no_block p (b ∷ bs) zero le = absurd (omega (arith, le))
no_block p (b ∷ bs) (suc i) le = no_block p bs i (omega (arith, le))

pub still : (p : ℕ → Bool) (bs : List Block) (i : ℕ) → list_any p (numbers_behind bs i 0) ≡ true → i < length bs
still p bs i h = elim (cases_lt i (length bs)) [ inl lt ↦ lt | inr le ↦ absurd (true_false (sym h ∙ no_block p bs i le)) ]
  where
    true_false : true ≡ false → ⊥
    true_false e = absurd cc

-- A number that fails the test is not among the numbers that pass.
pub not_before : (p : ℕ → Bool) (n : ℕ) (xs : List ℕ) → p n ≡ false → AllAre p true xs → list_any (is n) xs ≡ false
not_before p n [] fails h = refl
not_before p n (x ∷ xs) fails h = elim (cases_Bool (is n x)) [
  | inl t ↦ absurd (true_false (sym h.0 ∙ ap p (eqb-true x n t) ∙ fails))
  | inr f ↦ ap (λ (b : Bool). b || list_any (is n) xs) f ∙ not_before p n xs fails h.1
]
  where
    true_false : true ≡ false → ⊥
    true_false e = absurd cc

pub is_behind : (p : ℕ → Bool) (n : ℕ) (xs front back : List ℕ) → xs ≡ front ++ back → p n ≡ false → AllAre p true front → Contains xs n → list_any (is n) back ≡ true
is_behind p n xs front back e fails h c =
    sym (ap (λ (b : Bool). b || list_any (is n) back) (not_before p n front fails h)) ∙ sym (list_any-append (is n) front back) ∙ sym (ap (list_any (is n)) e) ∙ list_any_at (is n) xs c.0 n c.1 (eq-eqb _ n c.2)

-- ---- the numbers that are left

single_front : (xs : List ℕ) (at : ℕ) → length xs ≡ 1 → at < length xs → take at xs ≡ []
single_front [] at one lt = absurd (omega (arith, one))
single_front (x ∷ y ∷ xs) at one lt = absurd (omega (arith, one))
single_front (x ∷ []) zero one lt = refl
single_front (x ∷ []) (suc at) one lt = absurd (omega (arith, lt))

single_back : (xs : List ℕ) (k : ℕ) → length xs ≡ 1 → 0 < k → drop k xs ≡ []
single_back [] k one lt = absurd (omega (arith, one))
single_back (x ∷ y ∷ xs) k one lt = absurd (omega (arith, one))
single_back (x ∷ []) zero one lt = absurd (omega (arith, lt))
single_back (x ∷ []) (suc zero) one lt = refl
single_back (x ∷ []) (suc (suc k)) one lt = refl

pub block_taken : (bs : List Block) (i at : ℕ) → i < length bs → at < length (block_at bs i) → length (block_at bs i) ≡ 1 → flat (remove bs i) ≡ before bs i at ++ numbers_behind bs i (at + 1)
block_taken [] i at lt inside one = absurd (omega (arith, lt))
block_taken (b ∷ bs) zero at lt inside one =
    sym (ap (λ (u : List ℕ). u ++ (drop (at + 1) b.items ++ flat bs)) (single_front b.items at one inside) ∙ ap (λ (u : List ℕ). u ++ flat bs) (single_back b.items (at + 1) one (omega arith)))
block_taken (b ∷ bs) (suc i) at lt inside one = ap (λ (u : List ℕ). b.items ++ u) (block_taken bs i at (omega (arith, lt)) inside one) ∙ sym (append_assoc b.items (before bs i at) (numbers_behind bs i (at + 1)))

all_take : (bs : List Block) (n : ℕ) → AreBlocks bs → AreBlocks (take n bs)
all_take [] zero h = tt
all_take [] (suc n) h = tt
all_take (b ∷ bs) zero h = tt
all_take (b ∷ bs) (suc n) h = (h.0, all_take bs n h.1)

all_drop : (bs : List Block) (n : ℕ) → AreBlocks bs → AreBlocks (drop n bs)
all_drop bs zero h = h
all_drop [] (suc n) h = tt
all_drop (b ∷ bs) (suc n) h = all_drop bs n h.1

pub blocks_left : (bs : List Block) (i : ℕ) → AreBlocks bs → AreBlocks (remove bs i)
blocks_left bs i h = all_append IsBlock (take i bs) (drop (suc i) bs) (all_take bs i h) (all_drop bs (suc i) h)

module _ (v : Block) where
  pub number_taken : (bs : List Block) (i at : ℕ) → i < length bs → v.items ≡ remove (block_at bs i) at → flat (slice_set bs i v) ≡ before bs i at ++ numbers_behind bs i (at + 1)
  number_taken [] i at lt e = absurd (omega (arith, lt))
  number_taken (b ∷ bs) zero at lt e =
      let next : suc at ≡ at + 1 = omega arith in
      ap (λ (u : List ℕ). u ++ flat bs) e ∙ append_assoc (take at b.items) (drop (suc at) b.items) (flat bs) ∙ ap (λ (k : ℕ). take at b.items ++ (drop k b.items ++ flat bs)) next
  number_taken (b ∷ bs) (suc i) at lt e = ap (λ (u : List ℕ). b.items ++ u) (number_taken bs i at (omega (arith, lt)) e) ∙ sym (append_assoc b.items (before bs i at) (numbers_behind bs i (at + 1)))

pub less : (b v : Block) (at : ℕ) → IsBlock b → at < length b.items → 1 < length b.items → v.items ≡ remove b.items at → vec_capacity v ≡ vec_capacity b → IsBlock v
less b v at h lt more e c =
    let long : length v.items + 1 ≡ length b.items = omega (arith, ap length e, length-append (take at b.items) (drop (suc at) b.items), length-take-le at b.items (omega (arith, lt)), length-drop (suc at) b.items, lt) in
    (omega (arith, long, more), omega (arith, long, h.1), omega (arith, h.2, c))

-- ---- two blocks become one

pub front_kept : (bs : List Block) (i k : ℕ) → i < k → block_at (remove bs k) i ≡ block_at bs i
front_kept bs i zero lt = absurd (omega (arith, lt))
front_kept [] i (suc k) lt = refl
front_kept (b ∷ bs) zero (suc k) lt = refl
front_kept (b ∷ bs) (suc i) (suc k) lt = front_kept bs i k (omega (arith, lt))

pub one_fewer : (bs : List Block) (k : ℕ) → k < length bs → length (remove bs k) + 1 ≡ length bs
one_fewer [] k lt = absurd (omega (arith, lt))
one_fewer (b ∷ bs) zero lt = omega arith
one_fewer (b ∷ bs) (suc k) lt = omega (arith, one_fewer bs k (omega (arith, lt)))

-- Two blocks that are joined: the first is borrowed to be written, and `more` are the numbers of the second, which was
-- removed.
pub record Joining (bs left : List Block) (i : ℕ) (b : Block) (more : List ℕ) : Type 0 where
  pub first : b.items ≡ block_at bs i
  pub second : more ≡ block_at bs (i + 1)
  pub blocks : AreBlocks left
  pub block : IsBlock b

pub joining : (bs left : List Block) (i : ℕ) (b next : Block) (more : List ℕ) → AreBlocks bs → i + 1 < length bs → left ≡ remove bs (i + 1) → b ≡ slice_index_or left i b → next ≡ slice_index_or bs (i + 1) next → more ≡ next.items
    → Joining bs left i b more
joining bs left i b next more h lt is value taken items =
    let are : AreBlocks left = subst AreBlocks (sym is) (blocks_left bs (i + 1) h) in
    let l = lent left i b are (omega (arith, lt, ap length is, one_fewer bs (i + 1) lt)) value in
    record {
      first = l.items ∙ ap (λ (u : List Block). block_at u i) is ∙ front_kept bs i (i + 1) (omega arith);
      second = items ∙ ap (λ (u : Block). u.items) taken ∙ at_is bs (i + 1) next lt;
      blocks = are;
      block = l.block;
    }

pub some_there : (bs : List Block) (i : ℕ) → AreBlocks bs → i < length bs → 0 < length (block_at bs i)
some_there [] i h lt = absurd (omega (arith, lt))
some_there (b ∷ bs) zero h lt = h.0.0
some_there (b ∷ bs) (suc i) h lt = some_there bs i h.1 (omega (arith, lt))

pub blocks_joined : (v : Block) (bs : List Block) (i k : ℕ) → k ≡ i + 1 → k < length bs → v.items ≡ block_at bs i ++ block_at bs k → flat (slice_set (remove bs k) i v) ≡ flat bs
blocks_joined v [] i k e lt is = absurd (omega (arith, lt))
blocks_joined v (b ∷ bs) i zero e lt is = absurd (omega (arith, e))
blocks_joined v (b ∷ []) zero (suc k) e lt is = absurd (omega (arith, lt))
blocks_joined v (b ∷ c ∷ bs) zero (suc (suc k)) e lt is = absurd (omega (arith, e))
blocks_joined v (b ∷ c ∷ bs) zero (suc zero) e lt is = ap (λ (u : List ℕ). u ++ flat bs) is ∙ append_assoc b.items c.items (flat bs)
blocks_joined v (b ∷ bs) (suc i) (suc k) e lt is = ap (λ (u : List ℕ). b.items ++ u) (blocks_joined v bs i k (omega (arith, e)) (omega (arith, lt)) is)

pub longer : (b v : Block) (more : List ℕ) → IsBlock b → length b.items + length more ≤ 512 → v.items ≡ b.items ++ more → vec_capacity b ≤ vec_capacity v → IsBlock v
longer b v more h few e c =
    let long : length v.items ≡ length b.items + length more = ap length e ∙ length-append b.items more in
    (omega (arith, long, h.0), omega (arith, long, few), omega (arith, h.2, c))
