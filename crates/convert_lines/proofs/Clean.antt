-- Bytes without control characters. They are one line, and no carriage return is cut off from them.
use Rattle.std.proofs.Common.{◌≡◌, ℕ, zero, suc, ◌-◌, true, false, ◌||◌, ◌==◌, nat_le, List, [], ◌∷◌, ◌++◌, length, take, slice_index, Some, None, if◌then◌else◌, refl, ap, ap₂, arith}
use Rattle.std.specs.List.{list_all}
use Rattle.std.proofs.lemmas.Bool.{and_parts, and_from, leb-true, ne_eqb}
use Rattle.line_replies.specs.cpe_io.Lines.{has_newline, line_of}

abbrev pub Clean : List ℕ → Type 0
Clean bs = list_all (λ b. nat_le 32 b) bs ≡ true

pub clean-append : (xs ys : List ℕ) → Clean xs → Clean ys → Clean (xs ++ ys)
clean-append [] ys h k = k
clean-append (x ∷ xs) ys h k = let p = and_parts (nat_le 32 x) (list_all (λ b. nat_le 32 b) xs) h in and_from _ _ p.0 (clean-append xs ys p.1 k)

pub clean-cons : (x : ℕ) (xs : List ℕ) → nat_le 32 x ≡ true → Clean xs → Clean (x ∷ xs)
clean-cons x xs h k = and_from _ _ h k

pub clean-has_newline : (xs : List ℕ) → Clean xs → has_newline xs ≡ false
clean-has_newline [] h = refl
clean-has_newline (x ∷ xs) h =
    let p = and_parts (nat_le 32 x) (list_all (λ b. nat_le 32 b) xs) h in
    ap₂ (λ a b. a || b) (ne_eqb x 10 (λ e. omega (arith, leb-true 32 x p.0))) (clean-has_newline xs p.1)

no_return : (xs : List ℕ) (i : ℕ) → Clean xs → (slice_index xs i == 13) ≡ false
no_return [] i h = refl
no_return (x ∷ xs) zero h =
    let p = and_parts (nat_le 32 x) (list_all (λ b. nat_le 32 b) xs) h in ne_eqb x 13 (λ e. omega (arith, leb-true 32 x p.0))
no_return (x ∷ xs) (suc i) h = no_return xs i (and_parts (nat_le 32 x) (list_all (λ b. nat_le 32 b) xs) h).1

pub clean-line_of : (xs : List ℕ) → Clean xs → line_of xs ≡ (if nat_le (length xs) 65536 then Some xs else None)
clean-line_of xs h =
    ap (λ b. if nat_le (length xs) 65536 then Some (if b then take (length xs - 1) xs else xs) else None) (no_return xs (length xs - 1) h)
