-- The text of a value, made from the piece of a URI that spells it. Of the public definitions, only `read_uri` uses
-- this directly.
use Rattle.std.specs.Prelude.{ℕ, ◌+◌, ◌*◌, ◌%◌, Bool, false, ◌||◌, ◌==◌, if◌then◌else◌, List, [], ◌∷◌, ◌++◌, length, codes}
use Rattle.std.specs.Char.{to_ascii_lowercase}
use Rattle.cpe_uri.specs.Spelling.{hex_value}

-- the code that two hexadecimal digits spell; the remainder matters only for other bytes
abbrev pub code_spelled : ℕ → ℕ → ℕ
code_spelled h l = (16 * hex_value h + hex_value l) % 256

-- the text of a code in a name: a special, or a character after a backslash
abbrev pub code_text : ℕ → List ℕ
code_text c = if c == 1 then 63 ∷ [] else (if c == 2 then 42 ∷ [] else 92 ∷ c ∷ [])

-- the byte is bare in a URI, but has a backslash before it in a name
abbrev pub is_requoted : ℕ → Bool
is_requoted b = b == 46 || b == 45 || b == 126

abbrev pub backslashes : ℕ → ℕ
backslashes b = if is_requoted b then 1 else 0

-- a bare byte of a URI as it is in a name: in lower case, with a backslash if it needs one
abbrev pub bare_text : ℕ → List ℕ
bare_text b = if is_requoted b then 92 ∷ to_ascii_lowercase b ∷ [] else to_ascii_lowercase b ∷ []

-- a piece of a URI, rewritten as a name spells the same text
unfoldable pub rewritten : List ℕ → List ℕ
rewritten [] = []
rewritten (b ∷ []) = bare_text b
rewritten (b ∷ d ∷ []) = bare_text b ++ bare_text d
rewritten (b ∷ h ∷ l ∷ s) = if b == 37 then code_text (code_spelled h l) ++ rewritten s else bare_text b ++ rewritten (h ∷ l ∷ s)

-- a rewritten piece between double quotes
abbrev pub uri_in_quotes : List ℕ → List ℕ
uri_in_quotes s = 34 ∷ (rewritten s ++ 34 ∷ [])

abbrev pub is_uri_hyphen : List ℕ → Bool
is_uri_hyphen [] = false
is_uri_hyphen (c ∷ []) = c == 45
is_uri_hyphen (c ∷ d ∷ s) = false

-- the text of a value in a name: `ANY` for an empty piece, `NA` for `-`, and otherwise a text in quotes
unfoldable pub span_text : List ℕ → List ℕ
span_text s = if length s == 0 then codes "ANY" else (if is_uri_hyphen s then codes "NA" else uri_in_quotes s)
