-- Scanners of spelled texts, in a style. The law `spelled_texts` says which texts `edge_end` and `stem_end` take.
use Rattle.std.specs.Prelude.{ℕ, suc, List, [], ◌∷◌, length, Bool, false, not, ◌&&◌, ◌||◌, Ok, Err, if◌then◌else◌}
use Rattle.name_grammar.specs.Scanners.{Scanner, ◌>>=◌, scan_both, choose, scan_one, up_to}
use Rattle.cpe_values.specs.declared.spelling.Style.{Style}
use Rattle.cpe_values.specs.Parts.{is_character}
use Rattle.cpe_values.specs.Spelling.{is_bare}
pub use Rattle.cpe_values.specs.Unspelling.{is_star, is_mark, is_backslash}

-- ---- bytes

-- the character is spelled with a backslash before it
abbrev pub is_quoted : Style → ℕ → Bool
is_quoted here c = is_character c && not (is_bare here c)

-- a character of a body may begin with this byte
abbrev pub starts_body : Style → ℕ → Bool
starts_body here c = is_bare here c || is_backslash c

abbrev pub begins_with_backslash : List ℕ → Bool
begins_with_backslash [] = false
begins_with_backslash (c ∷ s) = is_backslash c

-- ---- leads and trails

-- takes at most 4,294,967,295 question marks
unfoldable pub marks_end : Scanner
marks_end s = up_to 4294967295 is_mark s

-- takes a lead or a trail: an asterisk, question marks, or nothing
unfoldable pub edge_end : Scanner
edge_end s = choose is_star (scan_one is_star) marks_end s

-- ---- bodies

-- takes one character, with its backslash if it needs a backslash
unfoldable pub character_end : Style → Scanner
character_end here s = choose is_backslash (scan_both (scan_one is_backslash) (scan_one (is_quoted here))) (scan_one (is_bare here)) s

-- takes as many characters of a body as possible
unfoldable pub body_end : Style → Scanner
body_end here [] = Ok []
body_end here (c ∷ []) = if is_bare here c then Ok [] else (if is_backslash c then Err 0 else Ok (c ∷ []))
body_end here (c ∷ d ∷ s) =
    if is_bare here c then body_end here (d ∷ s) else
    (if is_backslash c then (if is_quoted here d then body_end here s else Err (suc (length s))) else Ok (c ∷ d ∷ s))

-- takes a body of at least one character, and a trail
unfoldable pub stem_end : Style → Scanner
stem_end here s = character_end here s >>= body_end here >>= edge_end
