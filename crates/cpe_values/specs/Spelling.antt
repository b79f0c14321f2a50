-- The spelling of a text in a well-formed name (NIST IR 7695, 5.3) and in a formatted string (6.2).
use Rattle.std.specs.Prelude.{ℕ, Bool, ◌&&◌, ◌||◌, nat_le, ◌==◌, if◌then◌else◌, List, [], ◌∷◌, ◌++◌, replicate}
use Rattle.std.specs.List.{flat_map}
use Rattle.cpe_values.specs.declared.value.Edge.{Edge}
use Rattle.cpe_values.specs.declared.value.Edge.TheVariants as edge
use Rattle.cpe_values.specs.declared.spelling.Style.{Style}
use Rattle.cpe_values.specs.declared.spelling.Style.TheVariants as style
use Rattle.cpe_values.specs.Parts.{Parts}

abbrev pub is_digit : ℕ → Bool
is_digit c = nat_le 48 c && nat_le c 57

abbrev pub is_letter : ℕ → Bool
is_letter c = nat_le 65 c && nat_le c 90 || nat_le 97 c && nat_le c 122

-- a letter, a digit or `_`
abbrev pub is_word : ℕ → Bool
is_word c = is_letter c || is_digit c || c == 95

-- a small letter, a digit or `_`: such a character has no backslash in either style, and is in lower case
abbrev pub is_lower_word : ℕ → Bool
is_lower_word c = nat_le 97 c && nat_le c 122 || is_digit c || c == 95

-- a bare character is spelled without a backslash; in a formatted string, `.` and `-` are bare, too
abbrev pub is_bare : Style → ℕ → Bool
is_bare style.Wfn c = is_word c
is_bare style.Formatted c = is_word c || c == 46 || c == 45

-- the spelling of a character of a body, with a backslash before it unless it is bare
abbrev pub style_character : Style → ℕ → List ℕ
style_character s c = if is_bare s c then c ∷ [] else 92 ∷ c ∷ []

-- the spelling of a lead or a trail: nothing, `*`, or question marks
abbrev pub edge_text : Edge → List ℕ
edge_text edge.None = []
edge_text edge.Star = 42 ∷ []
edge_text (edge.Marks n) = replicate n 63

-- the spelling of a text: its lead, its body character by character, and its trail
abbrev pub spelling : Style → Parts → List ℕ
spelling s t = edge_text t.lead ++ flat_map (style_character s) t.body ++ edge_text t.trail
