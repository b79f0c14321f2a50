-- Lemmas: the colons at the end of a text are removed one by one.
use Rattle.std.proofs.Common.{◌≡◌, ℕ, zero, suc, ◌-◌, ◌<◌, ◌≤◌, length, take, get_or, arith, Bool, true, false, ◌&&◌, nat_eq, List, [], ◌∷◌, ◌++◌, refl, sym, ap, ◌∙◌, inl, inr}
use Rattle.std.specs.List.{list_all}
use Rattle.std.proofs.lemmas.Bool.{cases_Bool, eqb-true, eqb-false, eq-eqb, ne_eqb, and_parts, and_from}
use Rattle.cpe_uri.specs.Canon.{trimmed}
use Rattle.cpe_uri.specs.Requoting.{ends_in_colon}

and_false : (x : Bool) → (x && false) ≡ false
and_false true = refl
and_false false = refl

-- ---- the last byte

all_last : (c : ℕ) (s : List ℕ) → list_all (nat_eq c) s ≡ true → list_all (nat_eq c) (s ++ c ∷ []) ≡ true
all_last c [] h = and_from (nat_eq c c) true (eq-eqb c c refl) refl
all_last c (b ∷ s) h = let p = and_parts (nat_eq c b) (list_all (nat_eq c) s) h in and_from _ _ p.0 (all_last c s p.1)

some_prefix : (c : ℕ) (s t : List ℕ) → list_all (nat_eq c) s ≡ false → list_all (nat_eq c) (s ++ t) ≡ false
some_prefix c [] t h = absurd cc
some_prefix c (b ∷ s) t h =
    elim (cases_Bool (nat_eq c b)) [
      | inl k ↦ rw k (some_prefix c s t (rw k at h))
      | inr k ↦ rw k refl
    ]

trimmed_last : (c : ℕ) (s : List ℕ) → trimmed c (s ++ c ∷ []) ≡ trimmed c s
trimmed_last c [] = let same : nat_eq c c ≡ true = eq-eqb c c refl in rw same refl
trimmed_last c (b ∷ s) =
    elim (cases_Bool (list_all (nat_eq c) (b ∷ s))) [
      | inl all ↦ let more : list_all (nat_eq c) (b ∷ (s ++ c ∷ [])) ≡ true = all_last c (b ∷ s) all in rw (all, more) refl
      | inr some ↦ let more : list_all (nat_eq c) (b ∷ (s ++ c ∷ [])) ≡ false = some_prefix c (b ∷ s) (c ∷ []) some in rw (some, more) (ap (λ (u : List ℕ). b ∷ u) (trimmed_last c s))
    ]

prefix_is : (s : List ℕ) → ends_in_colon s ≡ true → take (length s - 1) s ++ 58 ∷ [] ≡ s
prefix_is [] h = absurd cc
prefix_is (c ∷ []) h = ap (λ (b : ℕ). b ∷ []) (sym (eqb-true c 58 h))
prefix_is (c ∷ d ∷ s) h = let one : length (c ∷ d ∷ s) - 1 ≡ suc (length (d ∷ s) - 1) = omega arith in rw one (ap (λ (u : List ℕ). c ∷ u) (prefix_is (d ∷ s) h))

trimmed_prefix : (s : List ℕ) → ends_in_colon s ≡ true → trimmed 58 (take (length s - 1) s) ≡ trimmed 58 s
trimmed_prefix s h = sym (trimmed_last 58 (take (length s - 1) s)) ∙ ap (trimmed 58) (prefix_is s h)

other_last : (d : ℕ) (s : List ℕ) → ends_in_colon (d ∷ s) ≡ false → list_all (nat_eq 58) (d ∷ s) ≡ false
other_last d [] h = let other : nat_eq 58 d ≡ false = ne_eqb 58 d (λ e. eqb-false d 58 h (sym e)) in rw other refl
other_last d (e ∷ s) h = rw (other_last e s h) (and_false (nat_eq 58 d))

pub trimmed_stays : (s : List ℕ) → ends_in_colon s ≡ false → trimmed 58 s ≡ s
trimmed_stays [] h = refl
trimmed_stays (d ∷ []) h = rw (other_last d [] h) refl
trimmed_stays (d ∷ e ∷ s) h = rw (other_last d (e ∷ s) h) (ap (λ (u : List ℕ). d ∷ u) (trimmed_stays (e ∷ s) h))

-- ---- prefixes of a text

take_prefix : (n : ℕ) (s : List ℕ) → n ≤ length s → take (length (take n s) - 1) (take n s) ≡ take (n - 1) s
take_prefix zero s h = refl
take_prefix (suc n) [] h = absurd (omega arith)
take_prefix (suc zero) (c ∷ s) h = refl
take_prefix (suc (suc n)) (c ∷ []) h = absurd (omega arith)
take_prefix (suc (suc n)) (c ∷ d ∷ s) h =
    let one : length (take (suc (suc n)) (c ∷ d ∷ s)) - 1 ≡ suc (length (take (suc n) (d ∷ s)) - 1) = omega arith in
    let two : suc (suc n) - 1 ≡ suc (suc n - 1) = omega arith in
    rw (one, two) (ap (λ (u : List ℕ). c ∷ u) (take_prefix (suc n) (d ∷ s) (omega arith)))

-- removing one colon at the end doesn't change the trimmed text
pub trimmed_one : (s : List ℕ) (n : ℕ) → n ≤ length s → ends_in_colon (take n s) ≡ true → trimmed 58 (take (n - 1) s) ≡ trimmed 58 (take n s)
trimmed_one s n h e = ap (trimmed 58) (sym (take_prefix n s h)) ∙ trimmed_prefix (take n s) e

-- the last byte of a prefix is the byte before the prefix's end
pub last_is : (s : List ℕ) (n : ℕ) → 0 < n → n ≤ length s → nat_eq (get_or s (n - 1) 0) 58 ≡ ends_in_colon (take n s)
last_is s zero h k = absurd (omega arith)
last_is [] (suc n) h k = absurd (omega arith)
last_is (c ∷ s) (suc zero) h k = refl
last_is (c ∷ []) (suc (suc n)) h k = absurd (omega arith)
last_is (c ∷ d ∷ s) (suc (suc n)) h k =
    let one : suc (suc n) - 1 ≡ suc (suc n - 1) = omega arith in
    rw one (last_is (d ∷ s) (suc n) (omega arith) (omega arith))

-- ---- bytes before a trimmed text

some_behind : (c : ℕ) (p s : List ℕ) → list_all (nat_eq c) s ≡ false → list_all (nat_eq c) (p ++ s) ≡ false
some_behind c [] s h = h
some_behind c (b ∷ p) s h = rw (some_behind c p s h) (and_false (nat_eq c b))

-- trimming keeps the bytes before a text that isn't all colons
pub trimmed_behind : (p s : List ℕ) → list_all (nat_eq 58) s ≡ false → trimmed 58 (p ++ s) ≡ p ++ trimmed 58 s
trimmed_behind [] s h = refl
trimmed_behind (b ∷ p) s h = let more : list_all (nat_eq 58) (b ∷ (p ++ s)) ≡ false = some_behind 58 (b ∷ p) s h in rw more (ap (λ (u : List ℕ). b ∷ u) (trimmed_behind p s h))
