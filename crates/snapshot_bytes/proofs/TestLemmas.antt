-- Lemmas: tests, level by level.
use Rattle.std.proofs.Common.{◌≡◌, refl, ℕ, zero, suc, ◌-◌, List, None, arith}
use Rattle.snapshot_bytes.specs.Reading.{logic_within, logic_at, test_at}

pub none_within : (bytes : List ℕ) → logic_within 0 bytes ≡ None
unfolding logic_within
none_within bytes = refl

pub within_is : (levels : ℕ) (bytes : List ℕ) → (levels ≡ 0 → ⊥) → logic_within levels bytes ≡ logic_at (test_at (levels - 1)) bytes
unfolding logic_within test_at
within_is zero bytes above = absurd (above refl)
within_is (suc levels) bytes above = let e : suc levels - 1 ≡ levels = omega arith in rw e refl
