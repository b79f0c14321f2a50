-- Lemmas: the search for the slot of a place, by halves of the list of marks.
use Rattle.std.proofs.Common.{◌≡◌, ℕ, zero, suc, ◌+◌, ◌^◌, ◌<◌, ◌≤◌, Bool, true, false, cond, List, [], ◌∷◌, length, take, drop, refl, sym, ap, ◌∙◌, arith}
use Rattle.std.specs.Prelude.{get_or, nat_le, slice_get, Option, Some, None}
use Rattle.std.specs.List.{AllByRecursion}
use Rattle.ticket_list.proofs.RisingLemmas.{rising_drop, rising_take}
use Rattle.std.proofs.lemmas.Bool.Decides.{nat_tests}
use Rattle.ticket_list.specs.Rising.{IsRising}
use Rattle.ticket_list.specs.Slots.{skipped}

abbrev or_zero : Option ℕ → ℕ
or_zero None = 0
or_zero (Some m) = m

abbrev is_there : Option ℕ → Bool
is_there None = false
is_there (Some m) = true

absent : {A : Type 0} (m : ℕ) → None ≡ Some m → A
absent m h = let wrong : false ≡ true = ap is_there h in absurd (cc)

-- a mark exceeds an earlier one by more than the number of marks between them
far_above : (n : ℕ) (marks : List ℕ) (j m : ℕ) → AllByRecursion (λ x. n < x) marks → IsRising marks → slice_get marks j ≡ Some m → n + j < m
far_above n [] j m above rising h = absent m h
far_above n (x ∷ xs) zero m above rising h = let same : x ≡ m = ap or_zero h in let lt : n < x = above.0 in omega (arith, same, lt)
far_above n (x ∷ xs) (suc j) m above rising h = let more : x + j < m = far_above x xs j m rising.0 rising.1 h in let lt : n < x = above.0 in omega (arith, more, lt)

pub up_to : (m k : ℕ) → m ≤ k → nat_le m k ≡ true
up_to m k h = grind (arith, nat_tests)

pub beyond : (m k : ℕ) → k < m → nat_le m k ≡ false
beyond m k h = grind (arith, nat_tests)

pub skipped_over : (k : ℕ) (marks : List ℕ) (j m : ℕ) → IsRising marks → slice_get marks j ≡ Some m → m ≤ k + j
    → skipped k marks ≡ skipped (k + j + 1) (drop (j + 1) marks)
skipped_over k [] j m rising h le = absent m h
skipped_over k (x ∷ xs) zero m rising h le =
    let same : x ≡ m = ap or_zero h in
    let here : suc k ≡ k + 0 + 1 = omega arith in
    ap (λ (b : Bool). cond b (skipped (suc k) xs) k) (up_to x k (omega (arith, same, le))) ∙ ap (λ (n : ℕ). skipped n xs) here
skipped_over k (x ∷ xs) (suc j) m rising h le =
    let far : x + j < m = far_above x xs j m rising.0 rising.1 h in
    let here : suc k + j + 1 ≡ k + suc j + 1 = omega arith in
    let there : suc (j + 1) ≡ suc j + 1 = omega arith in
    ap (λ (b : Bool). cond b (skipped (suc k) xs) k) (up_to x k (omega (arith, far, le)))
    ∙ skipped_over (suc k) xs j m rising.1 h (omega (arith, le))
    ∙ ap (λ (n : ℕ). skipped n (drop (j + 1) xs)) here
    ∙ ap (λ (n : ℕ). skipped (k + suc j + 1) (drop n (x ∷ xs))) there

pub skipped_before : (k : ℕ) (marks : List ℕ) (j m : ℕ) → slice_get marks j ≡ Some m → k + j < m
    → skipped k marks ≡ skipped k (take j marks)
skipped_before k [] j m h lt = absent m h
skipped_before k (x ∷ xs) zero m h lt =
    let same : x ≡ m = ap or_zero h in
    ap (λ (b : Bool). cond b (skipped (suc k) xs) k) (beyond x k (omega (arith, same, lt)))
skipped_before k (x ∷ xs) (suc j) m h lt = ap (λ (n : ℕ). cond (nat_le x k) n k) (skipped_before (suc k) xs j m h (omega (arith, lt)))

pub read_mark : (marks : List ℕ) (j d : ℕ) → j < length marks → slice_get marks j ≡ Some (get_or marks j d)
read_mark [] j d lt = absurd (omega (arith, lt))
read_mark (x ∷ xs) zero d lt = refl
read_mark (x ∷ xs) (suc j) d lt = read_mark xs j d (omega (arith, lt))

length_behind : (j : ℕ) (marks : List ℕ) → j < length marks → j + 1 + length (drop (j + 1) marks) ≡ length marks
length_behind j [] lt = absurd (omega (arith, lt))
length_behind zero (x ∷ xs) lt = omega arith
length_behind (suc j) (x ∷ xs) lt =
    let more = length_behind j xs (omega (arith, lt)) in
    let there : suc (j + 1) ≡ suc j + 1 = omega arith in
    let same = ap (λ (n : ℕ). length (drop n (x ∷ xs))) there in
    omega (arith, more, same)

length_before : (j : ℕ) (marks : List ℕ) → length (take j marks) ≤ length marks
length_before zero marks = omega arith
length_before (suc j) [] = omega arith
length_before (suc j) (x ∷ xs) = let more = length_before j xs in omega (arith, more)

-- the state of the search: the slot found so far, and the marks that are left
pub record IsLeft (slot : ℕ) (rest : List ℕ) (found : ℕ) : Type 0 where
  pub rising : IsRising rest
  pub few : slot + length rest < 2 ^ 64
  pub same : skipped slot rest ≡ found

pub removed_behind : (slot : ℕ) (rest : List ℕ) (found j m : ℕ) → IsLeft slot rest found → j < length rest → m ≡ get_or rest j m → m ≤ slot + j
    → IsLeft (slot + (j + 1)) (drop (j + 1) rest) found
removed_behind slot rest found j m h lt e le =
    let long = length_behind j rest lt in
    let few : slot + length rest < 2 ^ 64 = h.few in
    let here : slot + j + 1 ≡ slot + (j + 1) = omega arith in
    record {
      rising = rising_drop (λ x. x) (j + 1) rest h.rising;
      few = omega (arith, long, few);
      same = ap (λ (n : ℕ). skipped n (drop (j + 1) rest)) (sym here)
          ∙ sym (skipped_over slot rest j m h.rising (read_mark rest j m lt ∙ ap (λ (n : ℕ). Some n) (sym e)) le)
          ∙ h.same;
    }

pub removed_before : (slot : ℕ) (rest : List ℕ) (found j m : ℕ) → IsLeft slot rest found → j < length rest → m ≡ get_or rest j m → slot + j < m
    → IsLeft slot (take j rest) found
removed_before slot rest found j m h lt e more =
    let short = length_before j rest in
    let few : slot + length rest < 2 ^ 64 = h.few in
    record {
      rising = rising_take (λ x. x) j rest h.rising;
      few = omega (arith, short, few);
      same = sym (skipped_before slot rest j m (read_mark rest j m lt ∙ ap (λ (n : ℕ). Some n) (sym e)) more) ∙ h.same;
    }
