-- Lemmas: numbers without leading zeros are compared by length and then by digits. This is the order of their values.
use Rattle.std.proofs.Common.{◌≡◌, ◌<◌, ◌≤◌, ℕ, suc, ◌+◌, ◌-◌, ◌*◌, ◌^◌, Bool, true, false, cond, ◌==◌, eqb-true, List, [], ◌∷◌, length, drop, refl, sym, ap, subst, ◌∙◌, arith, lit<}
use Rattle.std.proofs.Common.{Ordering}
use Rattle.std.specs.declared.cmp.Ordering.TheVariants.{Less, Equal, Greater}
use Rattle.std.specs.Cmp.{nat_cmp_is}
use Rattle.std.specs.Cmp.Lexicographic.{slice_cmp}
use Rattle.std.specs.Ordering.{MatchOrdering, nat_cmp, ordering_then}
use Rattle.std.specs.List.{list_all, prefix_len}
use Rattle.std.specs.Char.{is_ascii_digit}
use Rattle.std.proofs.lemmas.Bool.{and_parts}
use Rattle.std.proofs.lemmas.Bool.Decides.{nat_tests}
use Rattle.std.proofs.lemmas.Cmp.{ranked}
use Rattle.std.proofs.Math.Nat.{mul-le-mul_left, pow-le-pow_right, pow-suc}
use Rattle.advise_versions.specs.Numbers.{AreDigits, value}
use Rattle.advise_versions.specs.Order.{piece_order}
use Rattle.advise_versions.specs.Pieces.{Number, begins_piece, without_zeros}

digit_within : (d : ℕ) → is_ascii_digit d ≡ true → (48 ≤ d) × (d < 58)
digit_within d h = (grind (arith, nat_tests), grind (arith, nat_tests))

next_power : (k : ℕ) → 10 ^ suc k ≡ 10 ^ k * 10
next_power k = pow-suc 10 k

-- The value of n digits is less than 10 to the power of n.
below : (ds : List ℕ) → AreDigits ds → value ds < 10 ^ length ds
below [] h = lit< tt
below (d ∷ ds) h =
    let both = and_parts (is_ascii_digit d) (list_all is_ascii_digit ds) h in
    let within = digit_within d both.0 in
    let most : d - 48 ≤ 9 = let high = within.1 in omega arith in
    let prefix : 10 ^ length ds * (d - 48) ≤ 10 ^ length ds * 9 = mul-le-mul_left (10 ^ length ds) most in
    let rest = below ds both.1 in
    let power = next_power (length ds) in
    omega (arith, prefix, rest, power)

-- A number with smaller leading digits is smaller, whatever the other digits are.
prefix_less : (p x y v w : ℕ) → x < y → v < p → p * x + v < p * y + w
prefix_less p x y v w less small =
    let one : x + 1 ≤ y = omega arith in
    let more : p * (x + 1) ≤ p * y = mul-le-mul_left p one in
    omega (arith, more, small)

same_length : (xs ys : List ℕ) → length xs ≡ length ys → AreDigits xs → AreDigits ys → slice_cmp nat_cmp xs ys ≡ nat_cmp (value xs) (value ys)
same_length [] [] e hx hy = refl
same_length [] (y ∷ ys) e hx hy = let wrong : 0 ≡ suc (length ys) = e in absurd (omega arith)
same_length (x ∷ xs) [] e hx hy = let wrong : suc (length xs) ≡ 0 = e in absurd (omega arith)
same_length (x ∷ xs) (y ∷ ys) e hx hy =
    let bx = and_parts (is_ascii_digit x) (list_all is_ascii_digit xs) hx in
    let by = and_parts (is_ascii_digit y) (list_all is_ascii_digit ys) hy in
    let wx = digit_within x bx.0 in
    let wy = digit_within y by.0 in
    let lengths : length xs ≡ length ys = let f : suc (length xs) ≡ suc (length ys) = e in omega arith in
    let power : 10 ^ length xs ≡ 10 ^ length ys = ap (λ n. 10 ^ n) lengths in
    go (nat_cmp x y) (ranked x y (nat_cmp x y) refl) wx.0 wy.0 power (below xs bx.1) (below ys by.1) (same_length xs ys lengths bx.1 by.1)
  where
    go : (o : Ordering) → MatchOrdering o (x < y) (x ≡ y) (y < x) → 48 ≤ x → 48 ≤ y → 10 ^ length xs ≡ 10 ^ length ys → value xs < 10 ^ length xs → value ys < 10 ^ length ys
        → slice_cmp nat_cmp xs ys ≡ nat_cmp (value xs) (value ys) → ordering_then o (slice_cmp nat_cmp xs ys) ≡ nat_cmp (value (x ∷ xs)) (value (y ∷ ys))
    go Less less lx ly power sx sy rest =
        let first : x - 48 < y - 48 = omega (arith, less, lx, ly) in
        let whole = prefix_less (10 ^ length xs) (x - 48) (y - 48) (value xs) (value ys) first sx in
        let same = ap (λ p. p * (y - 48) + value ys) power in
        nat_cmp_is _ _ Less (subst (λ n. 10 ^ length xs * (x - 48) + value xs < n) same whole)
    go Greater more lx ly power sx sy rest =
        let first : y - 48 < x - 48 = omega (arith, more, lx, ly) in
        let whole = prefix_less (10 ^ length ys) (y - 48) (x - 48) (value ys) (value xs) first sy in
        let same = ap (λ p. p * (x - 48) + value xs) (sym power) in
        nat_cmp_is _ _ Greater (subst (λ n. 10 ^ length ys * (y - 48) + value ys < n) same whole)
    go Equal same lx ly power sx sy rest =
        rest ∙ shifted (10 ^ length xs * (x - 48)) (value xs) (value ys) ∙ (λ i. nat_cmp (10 ^ length xs * (x - 48) + value xs) (power i * (same i - 48) + value ys))
      where
        shifted : (k v w : ℕ) → nat_cmp v w ≡ nat_cmp (k + v) (k + w)
        shifted k v w = by (nat_cmp v w) (ranked v w (nat_cmp v w) refl)
          where
            by : (r : Ordering) → MatchOrdering r (v < w) (v ≡ w) (w < v) → r ≡ nat_cmp (k + v) (k + w)
            by Less h = let moved : k + v < k + w = omega (arith, h) in nat_cmp_is (k + v) (k + w) Less moved
            by Equal h = let moved : k + v ≡ k + w = omega (arith, h) in nat_cmp_is (k + v) (k + w) Equal moved
            by Greater h = let moved : k + w < k + v = omega (arith, h) in nat_cmp_is (k + v) (k + w) Greater moved

-- More than n digits without a leading zero have a value of at least 10 to the power of n.
at_least : (ds : List ℕ) → AreDigits ds → begins_piece (λ d. d == 48) ds ≡ false → (n : ℕ) → n < length ds → 10 ^ n ≤ value ds
at_least [] h first n lt = absurd (omega (arith, lt))
at_least (d ∷ ds) h first n lt =
    let both = and_parts (is_ascii_digit d) (list_all is_ascii_digit ds) h in
    let within = digit_within d both.0 in
    let some : 1 ≤ d - 48 = one_at_least d within.0 first in
    let fewer : n ≤ length ds = let l : n < suc (length ds) = lt in omega arith in
    let prefix : 10 ^ length ds * 1 ≤ 10 ^ length ds * (d - 48) = mul-le-mul_left (10 ^ length ds) some in
    let power : 10 ^ n ≤ 10 ^ length ds = pow-le-pow_right (lit< tt) fewer in
    omega (arith, prefix, power)
  where
    one_at_least : (x : ℕ) → 48 ≤ x → (x == 48) ≡ false → 1 ≤ x - 48
    one_at_least x low other = grind (arith, nat_tests)

by_length : (xs ys : List ℕ) → AreDigits xs → AreDigits ys → begins_piece (λ d. d == 48) xs ≡ false → begins_piece (λ d. d == 48) ys ≡ false
    → ordering_then (nat_cmp (length xs) (length ys)) (slice_cmp nat_cmp xs ys) ≡ nat_cmp (value xs) (value ys)
by_length xs ys hx hy fx fy = go (nat_cmp (length xs) (length ys)) (ranked (length xs) (length ys) (nat_cmp (length xs) (length ys)) refl)
  where
    go : (o : Ordering) → MatchOrdering o (length xs < length ys) (length xs ≡ length ys) (length ys < length xs) → ordering_then o (slice_cmp nat_cmp xs ys) ≡ nat_cmp (value xs) (value ys)
    go Less h =
        let small = below xs hx in
        let large = at_least ys hy fy (length xs) h in
        let less : value xs < value ys = omega (arith, small, large) in
        nat_cmp_is (value xs) (value ys) Less less
    go Equal h = same_length xs ys h hx hy
    go Greater h =
        let small = below ys hy in
        let large = at_least xs hx fx (length ys) h in
        let less : value ys < value xs = omega (arith, small, large) in
        nat_cmp_is (value xs) (value ys) Greater less

-- ---- numbers without the leading zeros

-- The digits `short` have the same value as `ds`, and no leading zero.
record IsShort (ds short : List ℕ) : Type 0 where
  digits : AreDigits short
  first : begins_piece (λ d. d == 48) short ≡ false
  same : value short ≡ value ds

shortened : (ds : List ℕ) → AreDigits ds → IsShort ds (without_zeros ds)
shortened [] h = record { digits = refl; first = refl; same = refl }
shortened (d ∷ ds) h = go (d == 48) refl (shortened ds (and_parts (is_ascii_digit d) (list_all is_ascii_digit ds) h).1)
  where
    go : (b : Bool) → (d == 48) ≡ b → IsShort ds (without_zeros ds) → IsShort (d ∷ ds) (drop (cond b (1 + prefix_len (λ x. x == 48) ds) 0) (d ∷ ds))
    go true e rest =
        let one : suc (prefix_len (λ x. x == 48) ds) ≡ 1 + prefix_len (λ x. x == 48) ds = omega arith in
        let zero_worth : value ds ≡ 10 ^ length ds * (d - 48) + value ds = let is = eqb-true d 48 e in let none : d - 48 ≡ 0 = omega arith in let lost : 10 ^ length ds * (d - 48) ≡ 10 ^ length ds * 0 = ap (λ x. 10 ^ length ds * x) none in omega (arith, lost) in
        subst (λ n. IsShort (d ∷ ds) (drop n (d ∷ ds))) one (record { digits = rest.digits; first = rest.first; same = rest.same ∙ zero_worth })
    go false e rest = record { digits = h; first = e; same = refl }

pub numbers_by_value : (xs ys : List ℕ) → AreDigits xs → AreDigits ys → piece_order (Number (without_zeros xs)) (Number (without_zeros ys)) ≡ nat_cmp (value xs) (value ys)
numbers_by_value xs ys hx hy =
    let sx = shortened xs hx in
    let sy = shortened ys hy in
    by_length (without_zeros xs) (without_zeros ys) sx.digits sy.digits sx.first sy.first ∙ (λ i. nat_cmp (sx.same i) (sy.same i))
