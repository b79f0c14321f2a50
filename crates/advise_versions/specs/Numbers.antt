-- The values of numbers in digits.
use Rattle.std.specs.Prelude.{◌≡◌, ℕ, ◌+◌, ◌-◌, ◌*◌, ◌^◌, List, [], ◌∷◌, length, true}
use Rattle.std.specs.List.{list_all}
use Rattle.std.specs.Char.{is_ascii_digit}

abbrev pub AreDigits : List ℕ → Type 0
AreDigits ds = list_all is_ascii_digit ds ≡ true

-- the value of the digits; leading zeros make no difference
abbrev pub value : List ℕ → ℕ
value [] = 0
value (d ∷ ds) = 10 ^ length ds * (d - 48) + value ds
