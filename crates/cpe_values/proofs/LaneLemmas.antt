-- Lemmas: what masks of lanes show about the bytes of a block.
use Rattle.std.proofs.Common.{◌≡◌, ℕ, zero, suc, ◌+◌, ◌-◌, ◌*◌, ◌/◌, ◌%◌, ◌^◌, ◌<◌, ◌≤◌, Bool, true, false, cond, leb, eqb, ◌&&◌, List, [], ◌∷◌, length, map, replicate, bit_and, refl, ◌∙◌, Fits, w8, arith}
use Rattle.std.specs.List.{prefix_len}
use Rattle.std.specs.Simd.Lanes.{sel_l, mask_l, top, Each1}
use Rattle.std.proofs.lemmas.Bool.{agree_below, agree_below_at, eqb-true}
use Rattle.std.proofs.lemmas.List.{length-map}
use Rattle.std.proofs.lemmas.Simd.{mask_l-lt}
use Rattle.std.proofs.Math.Nat.{two-pow-succ, one-le-pow}
use Rattle.std.proofs.Math.Pow.{pow_mono}
use lib.Count.{count_trailing_zeros, under}
use Rattle.cpe_values.specs.Lanes.{lanes_where, is_between}

-- two functions of a byte are equal if they agree on all 256 bytes
pub map_of_bytes : (f g : ℕ → ℕ) → agree_below (λ c. eqb (f c) (g c)) (λ _. true) 256 ≡ true → (xs : List ℕ) → Each1 (Fits w8) xs → map f xs ≡ map g xs
map_of_bytes f g same [] fits = refl
map_of_bytes f g same (x ∷ xs) fits =
    let here : f x ≡ g x = eqb-true (f x) (g x) (agree_below_at (λ c. eqb (f c) (g c)) (λ _. true) 256 x same fits.0.fits) in
    λ i. here i ∷ map_of_bytes f g same xs fits.1 i

-- `select` makes 255 of each lane that is set, and 0 of each other lane
pub sel_l-map : (p : ℕ → Bool) (xs : List ℕ) (n : ℕ) → length xs ≡ n → sel_l (map p xs) (replicate n 255) (replicate n 0) ≡ lanes_where p xs
sel_l-map p [] n long = refl
sel_l-map p (x ∷ xs) zero long = absurd (omega arith)
sel_l-map p (x ∷ xs) (suc n) long = λ i. cond (p x) 255 0 ∷ sel_l-map p xs n (omega arith) i

top_of : (b : Bool) → leb 128 (cond b 255 0) ≡ b
top_of true = refl
top_of false = refl

-- the first lanes with a set top bit belong to the first bytes that pass the test
pub prefix_len-lanes_where : (p : ℕ → Bool) (xs : List ℕ) → prefix_len (leb 128) (lanes_where p xs) ≡ prefix_len p xs
prefix_len-lanes_where p [] = refl
prefix_len-lanes_where p (x ∷ xs) = λ i. cond (top_of (p x) i) (1 + prefix_len-lanes_where p xs i) 0

-- the top bit of the "and" of two lanes is set exactly if both lanes are set
below_both : (a b : Bool) → top 7 (bit_and (cond a 255 0) (cond b 255 0)) ≡ a && b
below_both true true = refl
below_both true false = refl
below_both false true = refl
below_both false false = refl

-- the top bits of two comparisons show which bytes are in a range
pub tops_between : (first last : ℕ) (xs : List ℕ) → map (λ c. top 7 (bit_and (cond (leb first c) 255 0) (cond (leb c last) 255 0))) xs ≡ map (is_between first last) xs
tops_between first last [] = refl
tops_between first last (x ∷ xs) = λ i. below_both (leb first x) (leb x last) i ∷ tops_between first last xs i

-- one lane more at the low end of a mask: a set lane is counted, and an unset lane ends the count
ones_step : (b : Bool) (k m t : ℕ) → m < 2 ^ k → count_trailing_zeros k (2 ^ k - 1 - m) ≡ t → under ((2 ^ suc k - 1 - (cond b 1 0 + 2 * m)) % 2) (count_trailing_zeros k ((2 ^ suc k - 1 - (cond b 1 0 + 2 * m)) / 2)) ≡ cond b (1 + t) 0
ones_step true k m t lt rest =
    let even : (2 ^ suc k - 1 - (1 + 2 * m)) % 2 ≡ 0 = omega (arith, two-pow-succ k) in
    let half : (2 ^ suc k - 1 - (1 + 2 * m)) / 2 ≡ 2 ^ k - 1 - m = omega (arith, two-pow-succ k) in
    (λ i. under (even i) (count_trailing_zeros k (half i))) ∙ omega (arith, rest)
ones_step false k m t lt rest =
    let odd : (2 ^ suc k - 1 - (0 + 2 * m)) % 2 ≡ 1 = omega (arith, two-pow-succ k) in
    λ i. under (odd i) (count_trailing_zeros k ((2 ^ suc k - 1 - (0 + 2 * m)) / 2))

-- the number of set lanes at the low end of a mask is the number of first bytes that pass the test
pub trailing_ones_of_mask : (p : ℕ → Bool) (k : ℕ) (xs : List ℕ) → length xs < k → count_trailing_zeros k (2 ^ k - 1 - mask_l (map p xs)) ≡ prefix_len p xs
unfolding count_trailing_zeros
trailing_ones_of_mask p zero xs lt = absurd (omega arith)
trailing_ones_of_mask p (suc k) [] lt =
    let odd : (2 ^ suc k - 1 - 0) % 2 ≡ 1 = omega (arith, two-pow-succ k, one-le-pow k 2 (omega arith)) in
    λ i. under (odd i) (count_trailing_zeros k ((2 ^ suc k - 1 - 0) / 2))
trailing_ones_of_mask p (suc k) (x ∷ xs) lt =
    let short : length (map p xs) ≤ k = omega (arith, length-map xs p) in
    let below : mask_l (map p xs) < 2 ^ k = omega (arith, mask_l-lt (map p xs), pow_mono short) in
    ones_step (p x) k (mask_l (map p xs)) (prefix_len p xs) below (trailing_ones_of_mask p k xs (omega arith))
