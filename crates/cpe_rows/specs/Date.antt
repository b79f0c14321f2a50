-- The form of a date: four digits, `-`, two digits, `-`, two digits.
use Rattle.std.specs.Prelude.{ℕ, ◌==◌, ◌&&◌, List, [], ◌∷◌, Bool, true, false}
use Rattle.std.specs.Char.{is_ascii_digit}

-- There are as many bytes as tests, and each byte passes the test at its place.
abbrev pub follows : List (ℕ → Bool) → List ℕ → Bool
follows [] [] = true
follows [] (b ∷ bs) = false
follows (p ∷ ps) [] = false
follows (p ∷ ps) (b ∷ bs) = p b && follows ps bs

abbrev pub digit : ℕ → Bool
digit = is_ascii_digit

abbrev pub dash : ℕ → Bool
dash b = b == 45

abbrev pub is_date : List ℕ → Bool
is_date = follows (digit ∷ digit ∷ digit ∷ digit ∷ dash ∷ digit ∷ digit ∷ dash ∷ digit ∷ digit ∷ [])
