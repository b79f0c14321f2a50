-- The texts that a part and a language may have (NIST IR 7695, 5.3).
use Rattle.std.specs.Prelude.{ℕ, Bool, true, false, ◌&&◌, ◌||◌, ◌==◌, List, [], ◌∷◌}
use Rattle.cpe_values.specs.declared.value.Value.{Value}
use Rattle.cpe_values.specs.declared.value.Value.TheVariants as value
use Rattle.cpe_values.specs.Parts.{is_nothing}
use Rattle.cpe_values.specs.Spelling.{is_letter, is_digit}

-- the value is ANY, NA, or a text without specials whose body passes the test
abbrev pub is_plain_of : (List ℕ → Bool) → Value → Bool
is_plain_of passes value.Any = true
is_plain_of passes value.Na = true
is_plain_of passes (value.Text t) = is_nothing t.lead && is_nothing t.trail && passes t.body

-- the character is `a`, `h` or `o`
abbrev pub is_part_letter : ℕ → Bool
is_part_letter c = c == 97 || c == 104 || c == 111

abbrev pub is_part_body : List ℕ → Bool
is_part_body [] = false
is_part_body (c ∷ []) = is_part_letter c
is_part_body (c ∷ d ∷ rest) = false

-- the bytes are empty, or a hyphen and the code of a region: two letters or three digits
abbrev pub is_region : List ℕ → Bool
is_region [] = true
is_region (h ∷ []) = false
is_region (h ∷ a ∷ []) = false
is_region (h ∷ a ∷ b ∷ []) = h == 45 && is_letter a && is_letter b
is_region (h ∷ a ∷ b ∷ c ∷ []) = h == 45 && is_digit a && is_digit b && is_digit c
is_region (h ∷ a ∷ b ∷ c ∷ d ∷ rest) = false

-- the bytes are two or three letters, perhaps with a region after them
abbrev pub is_language_body : List ℕ → Bool
is_language_body [] = false
is_language_body (a ∷ []) = false
is_language_body (a ∷ b ∷ []) = is_letter a && is_letter b
is_language_body (a ∷ b ∷ c ∷ rest) = is_letter a && is_letter b && (is_region (c ∷ rest) || is_letter c && is_region rest)

abbrev pub is_part : Value → Bool
is_part = is_plain_of is_part_body

abbrev pub is_language : Value → Bool
is_language = is_plain_of is_language_body
