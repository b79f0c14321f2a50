-- Lemmas: the cases of a scanner's result.
use Rattle.std.proofs.Common.{◌≡◌, ◌⊎◌, ℕ, Bool, true, false, cond, List, Result, Ok, Err, refl, inl, inr}
use Rattle.name_grammar.specs.Scanners.{Scanner, ◌>>=◌}

-- results with a fixed type, so that equations between them have one type
abbrev pub left_over : List ℕ → Result (List ℕ) ℕ
left_over s = Ok s

abbrev pub stopped : ℕ → Result (List ℕ) ℕ
stopped left = Err left

-- if two scanners succeed one after the other, both of them succeed
pub went_on : (r : Result (List ℕ) ℕ) (next : Scanner) (s : List ℕ) → (r >>= next) ≡ Ok s → (m : List ℕ) × (r ≡ Ok m) × (next m ≡ Ok s)
went_on (Ok m) next s e = (m, refl, e)
went_on (Err left) next s e = absurd cc

-- if two scanners fail one after the other, the first fails or the second fails
pub stopped_at : (r : Result (List ℕ) ℕ) (next : Scanner) (left : ℕ) → (r >>= next) ≡ Err left → (r ≡ Err left) ⊎ ((m : List ℕ) × (r ≡ Ok m) × (next m ≡ Err left))
stopped_at (Ok m) next left e = inr (m, refl, e)
stopped_at (Err n) next left e = inl cc

-- a conditional equals one of its two branches
pub chosen : {X : Type 0} (b : Bool) (x y z : X) → cond b x y ≡ z → ((b ≡ true) × (x ≡ z)) ⊎ ((b ≡ false) × (y ≡ z))
chosen true x y z e = inl (refl, e)
chosen false x y z e = inr (refl, e)

-- equal successes have equal bytes left
pub ok_is : (s t : List ℕ) → left_over s ≡ left_over t → s ≡ t
ok_is s t e = cc

-- equal failures have equal numbers of bytes left
pub err_is : (m n : ℕ) → stopped m ≡ stopped n → m ≡ n
err_is m n e = cc

-- no result is both a success and a failure
pub ok≢err : (s : List ℕ) (n : ℕ) → left_over s ≡ stopped n → ⊥
ok≢err s n e = cc
