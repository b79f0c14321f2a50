-- The scanners of the part and the language of a URI, in the same form as in `src/`. Of the public definitions, only
-- `read_uri` uses them directly. The law `read_uri_is` says what `read_uri` returns, by the grammar alone.
use Rattle.std.specs.Prelude.{ℕ, Bool, ◌||◌, ◌==◌, codes}
use Rattle.std.specs.Char.{to_ascii_lowercase}
use Rattle.name_grammar.specs.Scanners.{Scanner, ◌>>=◌, choose, nothing, scan_one, literal}
use Rattle.cpe_values.specs.Spelling.{is_letter}
use Rattle.cpe_name.specs.Shapes.{is_part_letter}
use Rattle.cpe_name.specs.Tags.{tag_end}

-- ---- parts

-- `-` for NA, or the letter of a part in either case
abbrev pub is_language_byte : ℕ → Bool
is_language_byte c = c == 45 || is_part_letter (to_ascii_lowercase c)

-- the part: nothing, `-`, or one of three letters
unfoldable pub part_end : Scanner
part_end s = choose is_language_byte (scan_one is_language_byte) nothing s

-- ---- languages

abbrev pub is_uri_hyphen : ℕ → Bool
is_uri_hyphen c = c == 45

-- a byte with which a hyphen begins: `-`, or the `%` of a percent form
abbrev pub begins_hyphen : ℕ → Bool
begins_hyphen c = c == 45 || c == 37

-- the last digit of a hyphen's percent form: `D` or `d`
abbrev pub is_last_digit : ℕ → Bool
is_last_digit c = c == 68 || c == 100

-- the percent form of a hyphen
unfoldable pub percent_hyphen_end : Scanner
percent_hyphen_end s = literal (codes "%2") s >>= scan_one is_last_digit

-- a hyphen, bare or as a percent form
unfoldable pub hyphen_end : Scanner
hyphen_end s = choose is_uri_hyphen (scan_one is_uri_hyphen) percent_hyphen_end s

-- a language tag, or nothing
unfoldable pub tag_or_nothing_end : Scanner
tag_or_nothing_end s = choose is_letter (tag_end begins_hyphen hyphen_end) nothing s

-- the language: nothing, `-`, or a language tag
unfoldable pub language_end : Scanner
language_end s = choose is_uri_hyphen (scan_one is_uri_hyphen) tag_or_nothing_end s
