-- Scanners, and how they are combined. A scanner reads a prefix of a text, and returns the bytes left after it. If the
-- text doesn't fit, it returns the number of bytes from the first wrong byte on.
use Rattle.std.specs.Prelude.{◌≡◌, ℕ, zero, suc, List, [], ◌∷◌, length, Bool, Result, Ok, Err, ◌==◌, if◌then◌else◌}

abbrev pub Scanner : Type 0
Scanner = List ℕ → Result (List ℕ) ℕ

-- The result of a function in `src/` equals that of a scanner. If the function succeeds, `view` returns the bytes left.
abbrev pub IsScan : {X : Type 0} → (X → List ℕ) → Result X ℕ → Result (List ℕ) ℕ → Type 0
IsScan view (Ok x) scanned = scanned ≡ Ok (view x)
IsScan view (Err left) scanned = scanned ≡ Err left

-- the next scanner, which reads the bytes that are left
infixl 10 ◌>>=◌
abbrev pub ◌>>=◌ : Result (List ℕ) ℕ → Scanner → Result (List ℕ) ℕ
(Ok rest) >>= next = next rest
(Err left) >>= next = Err left

-- the first scanner, and after it the second
abbrev pub scan_both : Scanner → Scanner → Scanner
scan_both first second s = first s >>= second

-- the scanner `this` if the first byte passes the test, and otherwise `other`
abbrev pub choose : (ℕ → Bool) → Scanner → Scanner → Scanner
choose passes this other [] = other []
choose passes this other (c ∷ s) = if passes c then this (c ∷ s) else other (c ∷ s)

-- reads nothing, and always succeeds
abbrev pub nothing : Scanner
nothing s = Ok s

-- succeeds only at the end of the text
abbrev pub scan_ending : Scanner
scan_ending [] = Ok []
scan_ending (c ∷ s) = Err (suc (length s))

-- reads one byte that passes the test
abbrev pub scan_one : (ℕ → Bool) → Scanner
scan_one passes [] = Err 0
scan_one passes (c ∷ s) = if passes c then Ok s else Err (suc (length s))

-- reads all bytes at the beginning that pass the test; more than `n` of them are an error
unfoldable pub up_to : ℕ → (ℕ → Bool) → Scanner
up_to n passes [] = Ok []
up_to zero passes (c ∷ s) = if passes c then Err (suc (length s)) else Ok (c ∷ s)
up_to (suc n) passes (c ∷ s) = if passes c then up_to n passes s else Ok (c ∷ s)

-- reads exactly `n` bytes that pass the test
abbrev pub run : ℕ → (ℕ → Bool) → Scanner
run zero passes s = Ok s
run (suc n) passes s = scan_one passes s >>= run n passes

-- reads exactly the given bytes
unfoldable pub literal : List ℕ → Scanner
literal [] s = Ok s
literal (c ∷ cs) s = scan_one (λ d. d == c) s >>= literal cs
