-- How a URI spells the values of a name (NIST IR 7695, 6.1). Letters, digits, `_`, `.` and `-` are bare. Any other
-- character is a percent sign and its code in two hexadecimal digits. Each special has a code that no character has.
use Rattle.std.specs.Prelude.{◌≡◌, ℕ, ◌+◌, ◌-◌, ◌*◌, ◌/◌, ◌%◌, Bool, false, not, ◌&&◌, ◌||◌, ◌==◌, nat_le, nat_lt, if◌then◌else◌, List, [], ◌∷◌, ◌++◌, replicate, IsTrue}
use Rattle.std.specs.List.{flat_map}
use Rattle.std.specs.Char.{to_ascii_lowercase}
use Rattle.cpe_values.specs.declared.value.Edge.{Edge}
use Rattle.cpe_values.specs.declared.value.Edge.TheVariants as edge
use Rattle.cpe_values.specs.declared.value.Value.{Value}
use Rattle.cpe_values.specs.declared.value.Value.TheVariants as value
use Rattle.cpe_values.specs.declared.spelling.Style.TheVariants as style
use Rattle.cpe_values.specs.Parts.{Parts, is_character}
use Rattle.cpe_values.specs.Spelling.{is_word, is_bare}

-- ---- codes

-- the codes of specials: 1 for a question mark, 2 for an asterisk
abbrev pub edge_codes : Edge → List ℕ
edge_codes edge.None = []
edge_codes edge.Star = 2 ∷ []
edge_codes (edge.Marks n) = replicate n 1

-- a text as a list of codes; a character of the body is its own code
abbrev pub text_codes : Parts → List ℕ
text_codes t = edge_codes t.lead ++ t.body ++ edge_codes t.trail

-- ---- the canonical spelling

-- the hexadecimal digit for a number from 0 to 15, with small letters
abbrev pub hex_digit : ℕ → ℕ
hex_digit n = if nat_lt n 10 then 48 + n else 87 + n

-- the percent form of a code: a percent sign, and the code in two hexadecimal digits
abbrev pub percent : ℕ → List ℕ
percent c = 37 ∷ hex_digit (c / 16) ∷ hex_digit (c % 16) ∷ []

-- The canonical spelling of a code. A character is bare in a URI if it is bare in a formatted string.
abbrev pub uri_character : ℕ → List ℕ
uri_character c = if is_bare style.Formatted c then c ∷ [] else percent c

-- the component of a value: nothing for ANY, `-` for NA, or the spelling of a text
abbrev pub uri_component : Value → List ℕ
uri_component value.Any = []
uri_component value.Na = 45 ∷ []
uri_component (value.Text t) = flat_map uri_character (text_codes t)

-- ---- the accepted spellings

-- a hexadecimal digit, with letters in either case
abbrev pub is_hex : ℕ → Bool
is_hex c = nat_le 48 c && nat_le c 57 || nat_le 65 c && nat_le c 70 || nat_le 97 c && nat_le c 102

-- the number that a hexadecimal digit represents
abbrev pub hex_value : ℕ → ℕ
hex_value c = if nat_le c 57 then c - 48 else (if nat_le c 70 then c - 55 else c - 87)

-- the code has a percent form: it is that of a special, or of a character other than a letter, a digit or `_`
abbrev pub has_percent_form : ℕ → Bool
has_percent_form c = c == 1 || c == 2 || is_character c && not (is_word c)

-- The accepted spellings of a code of a text in lower case: bare, with a letter in either case, or as a percent form. A
-- `~` may be bare too.
abbrev pub spells : ℕ → List ℕ → Bool
spells c [] = false
spells c (b ∷ []) = (is_bare style.Formatted b || b == 126) && to_ascii_lowercase b == c
spells c (b ∷ d ∷ []) = false
spells c (p ∷ h ∷ l ∷ []) = p == 37 && is_hex h && is_hex l && 16 * hex_value h + hex_value l == c && has_percent_form c
spells c (p ∷ h ∷ l ∷ d ∷ u) = false

-- the text has these codes one after the other, each in an accepted spelling
abbrev pub Spelled : List ℕ → List ℕ → Type 0
Spelled [] s = s ≡ []
Spelled (c ∷ cs) s = (u v : List ℕ) × (s ≡ u ++ v) × IsTrue (spells c u) × Spelled cs v

-- the component is an accepted spelling of the value
abbrev pub IsSpellingOf : Value → List ℕ → Type 0
IsSpellingOf value.Any s = s ≡ []
IsSpellingOf value.Na s = s ≡ 45 ∷ []
IsSpellingOf (value.Text t) s = Spelled (text_codes t) s
