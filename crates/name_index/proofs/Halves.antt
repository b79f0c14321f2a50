-- Lemmas: a block that is cut in two.
use Rattle.std.proofs.Common.{◌≡◌, ℕ, zero, suc, ◌+◌, ◌<◌, ◌≤◌, List, [], ◌∷◌, ◌++◌, length, take, drop, refl, sym, ap, subst, ◌∙◌, append_assoc, arith, length-drop, vec_capacity}
use Rattle.std.specs.List.{slice_set, insert}
use Rattle.std.proofs.lemmas.List.{length-take-le}
use Rattle.name_index.specs.Places.{Block, flat, IsBlock, AreBlocks, block_at, before, numbers_behind, IsHalved}
use Rattle.name_index.proofs.Cuts.{take_more, drop_more, take_less, drop_less}

pub first_half : (b v : Block) → IsBlock b → length b.items ≡ 1024 → v.items ≡ take 512 b.items → vec_capacity b ≤ vec_capacity v → IsBlock v
first_half b v h full e c =
    let long : length v.items ≡ 512 = ap length e ∙ length-take-le 512 b.items (omega (arith, full)) in
    (omega (arith, long), omega (arith, long), omega (arith, h.2, c))

pub second_half : (b w : Block) → length b.items ≡ 1024 → w.items ≡ drop 512 b.items → 1024 ≤ vec_capacity w → IsBlock w
second_half b w full e c =
    let long : length w.items ≡ 512 = ap length e ∙ length-drop 512 b.items ∙ omega (arith, full) in
    (omega (arith, long), omega (arith, long), c)

module _ (v w : Block) where
  abbrev pub halved : List Block → ℕ → List Block
  halved [] i = []
  halved (b ∷ bs) zero = v ∷ w ∷ bs
  halved (b ∷ bs) (suc i) = b ∷ halved bs i

  pub inserted : (bs : List Block) (i k : ℕ) → k ≡ i + 1 → i < length bs → insert (slice_set bs i v) k w ≡ halved bs i
  inserted [] i k e lt = absurd (omega (arith, lt))
  inserted (b ∷ bs) i zero e lt = absurd (omega (arith, e))
  inserted (b ∷ bs) zero (suc zero) e lt = refl
  inserted (b ∷ bs) zero (suc (suc k)) e lt = absurd (omega (arith, e))
  inserted (b ∷ bs) (suc i) (suc k) e lt = ap (λ (u : List Block). b ∷ u) (inserted bs i k (omega (arith, e)) (omega (arith, lt)))

  longer : (bs : List Block) (i : ℕ) → i < length bs → length (halved bs i) ≡ length bs + 1
  longer [] i lt = absurd (omega (arith, lt))
  longer (b ∷ bs) zero lt = omega arith
  longer (b ∷ bs) (suc i) lt = omega (arith, longer bs i (omega (arith, lt)))

  blocks : (bs : List Block) (i : ℕ) → AreBlocks bs → IsBlock v → IsBlock w → AreBlocks (halved bs i)
  blocks [] i h k l = tt
  blocks (b ∷ bs) zero h k l = (k, (l, h.1))
  blocks (b ∷ bs) (suc i) h k l = (h.0, blocks bs i h.1 k l)

  first_is : (bs : List Block) (i : ℕ) → i < length bs → block_at (halved bs i) i ≡ v.items
  first_is [] i lt = absurd (omega (arith, lt))
  first_is (b ∷ bs) zero lt = refl
  first_is (b ∷ bs) (suc i) lt = first_is bs i (omega (arith, lt))

  second_is : (bs : List Block) (i k : ℕ) → k ≡ i + 1 → i < length bs → block_at (halved bs i) k ≡ w.items
  second_is [] i k e lt = absurd (omega (arith, lt))
  second_is (b ∷ bs) i zero e lt = absurd (omega (arith, e))
  second_is (b ∷ bs) zero (suc zero) e lt = refl
  second_is (b ∷ bs) zero (suc (suc k)) e lt = absurd (omega (arith, e))
  second_is (b ∷ bs) (suc i) (suc k) e lt = second_is bs i k (omega (arith, e)) (omega (arith, lt))

  module _ (h : ℕ) where
    before_first : (bs : List Block) (i at : ℕ) → i < length bs → v.items ≡ take h (block_at bs i) → at ≤ h → before (halved bs i) i at ≡ before bs i at
    before_first [] i at lt e le = refl
    before_first (b ∷ bs) zero at lt e le = ap (take at) e ∙ take_less b.items at h le
    before_first (b ∷ bs) (suc i) at lt e le = ap (λ (u : List ℕ). b.items ++ u) (before_first bs i at (omega (arith, lt)) e le)

    behind_first : (bs : List Block) (i at : ℕ) → i < length bs → v.items ≡ take h (block_at bs i) → w.items ≡ drop h (block_at bs i) → at ≤ h → numbers_behind (halved bs i) i at ≡ numbers_behind bs i at
    behind_first [] i at lt e f le = refl
    behind_first (b ∷ bs) zero at lt e f le =
        ap (λ (u : List ℕ). drop at u ++ (w.items ++ flat bs)) e ∙ ap (λ (u : List ℕ). drop at (take h b.items) ++ (u ++ flat bs)) f
        ∙ sym (append_assoc (drop at (take h b.items)) (drop h b.items) (flat bs)) ∙ ap (λ (u : List ℕ). u ++ flat bs) (drop_less b.items at h le)
    behind_first (b ∷ bs) (suc i) at lt e f le = behind_first bs i at (omega (arith, lt)) e f le

    before_second : (bs : List Block) (i k at : ℕ) → k ≡ i + 1 → i < length bs → v.items ≡ take h (block_at bs i) → w.items ≡ drop h (block_at bs i) → before (halved bs i) k at ≡ before bs i (h + at)
    before_second [] i k at c lt e f = absurd (omega (arith, lt))
    before_second (b ∷ bs) i zero at c lt e f = absurd (omega (arith, c))
    before_second (b ∷ bs) zero (suc zero) at c lt e f = ap (λ (u : List ℕ). u ++ take at w.items) e ∙ ap (λ (u : List ℕ). take h b.items ++ take at u) f ∙ sym (take_more b.items h at (h + at) refl)
    before_second (b ∷ bs) zero (suc (suc k)) at c lt e f = absurd (omega (arith, c))
    before_second (b ∷ bs) (suc i) (suc k) at c lt e f = ap (λ (u : List ℕ). b.items ++ u) (before_second bs i k at (omega (arith, c)) (omega (arith, lt)) e f)

    behind_second : (bs : List Block) (i k at : ℕ) → k ≡ i + 1 → i < length bs → w.items ≡ drop h (block_at bs i) → numbers_behind (halved bs i) k at ≡ numbers_behind bs i (h + at)
    behind_second [] i k at c lt f = absurd (omega (arith, lt))
    behind_second (b ∷ bs) i zero at c lt f = absurd (omega (arith, c))
    behind_second (b ∷ bs) zero (suc zero) at c lt f = ap (λ (u : List ℕ). drop at u ++ flat bs) f ∙ ap (λ (u : List ℕ). u ++ flat bs) (drop_more b.items h at (h + at) refl)
    behind_second (b ∷ bs) zero (suc (suc k)) at c lt f = absurd (omega (arith, c))
    behind_second (b ∷ bs) (suc i) (suc k) at c lt f = behind_second bs i k at (omega (arith, c)) (omega (arith, lt)) f

  pub is_halved : (bs new : List Block) (i : ℕ) → i < length bs → AreBlocks bs → length (block_at bs i) ≡ 1024 → v.items ≡ take 512 (block_at bs i) → w.items ≡ drop 512 (block_at bs i)
      → IsBlock v → IsBlock w → new ≡ insert (slice_set bs i v) (i + 1) w → IsHalved bs new i
  is_halved bs new i lt are full front back is_v is_w new_is =
      subst (λ (u : List Block). IsHalved bs u i) (sym (new_is ∙ inserted bs i (i + 1) refl lt)) (record {
        blocks = blocks bs i are is_v is_w;
        one_more = longer bs i lt;
        first = ap length (first_is bs i lt ∙ front) ∙ length-take-le 512 (block_at bs i) (omega (arith, full));
        second = ap length (second_is bs i (i + 1) refl lt ∙ back) ∙ length-drop 512 (block_at bs i) ∙ omega (arith, full);
        before_first = λ at le. before_first 512 bs i at lt front le;
        behind_first = λ at le. behind_first 512 bs i at lt front back le;
        before_second = λ at. before_second 512 bs i (i + 1) at refl lt front back;
        behind_second = λ at. behind_second 512 bs i (i + 1) at refl lt back;
      })
