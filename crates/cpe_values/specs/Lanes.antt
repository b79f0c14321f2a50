-- The lanes of a block of sixteen bytes: the results of a test of each byte.
use Rattle.std.specs.Prelude.{ℕ, Bool, ◌&&◌, nat_le, if◌then◌else◌, List, map}

-- 255 for each byte that passes a test, and 0 for each other byte
abbrev pub lanes_where : (ℕ → Bool) → List ℕ → List ℕ
lanes_where passes block = map (λ c. if passes c then 255 else 0) block

abbrev pub is_between : ℕ → ℕ → ℕ → Bool
is_between first last c = nat_le first c && nat_le c last
