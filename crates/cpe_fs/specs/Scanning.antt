-- The scanners of a formatted string, in the same form as in `src/`. Of the public definitions, only `read_fs` and
-- `read_component` use them directly. The laws `read_fs_is` and `read_component_is` say what these two return, by the
-- grammar alone.
use Rattle.std.specs.Prelude.{ℕ, List, [], ◌∷◌, codes, Bool, ◌||◌, ◌==◌, Ok}
use Rattle.cpe_values.specs.declared.spelling.Style.TheVariants as style
use Rattle.cpe_values.specs.Scanning.{is_star, starts_body, edge_end, stem_end}
use Rattle.cpe_name.specs.declared.attribute.Attribute.{Attribute}
use Rattle.cpe_name.specs.declared.attribute.Attribute.TheVariants.{Part, Language}
use Rattle.cpe_name.specs.Names.{attributes}
use Rattle.cpe_name.specs.Shapes.{is_part_letter}
use Rattle.cpe_name.specs.Tags.{tag_end}
use Rattle.name_grammar.specs.Scanners.{Scanner, ◌>>=◌, scan_both, choose, nothing, scan_ending, scan_one, literal}

-- ---- bytes

abbrev pub is_fs_colon : ℕ → Bool
is_fs_colon c = c == 58

abbrev pub is_hyphen_byte : ℕ → Bool
is_hyphen_byte c = c == 45

-- ---- texts

-- what follows an asterisk at the beginning of a component: nothing, or a body with its trail
unfoldable pub led_end : Scanner
led_end s = choose (starts_body style.Formatted) (stem_end style.Formatted) nothing s

-- the component of most attributes: `*`, `-` or a text
unfoldable pub text_end : Scanner
text_end s = choose is_star (scan_both (scan_one is_star) led_end) (scan_both edge_end (stem_end style.Formatted)) s

-- ---- parts and languages

-- `*` for ANY, `-` for NA, or the letter of a part
abbrev pub is_fs_part_byte : ℕ → Bool
is_fs_part_byte c = c == 42 || c == 45 || is_part_letter c

-- the part: `*`, `-` or one of three letters
unfoldable pub part_end : Scanner
part_end s = scan_one is_fs_part_byte s

-- `*` for ANY, or `-` for NA
abbrev pub is_lone_byte : ℕ → Bool
is_lone_byte c = c == 42 || c == 45

-- the language: `*`, `-` or a language tag
unfoldable pub language_end : Scanner
language_end s = choose is_lone_byte (scan_one is_lone_byte) (tag_end is_hyphen_byte (scan_one is_hyphen_byte)) s

-- ---- the whole formatted string

-- the scanner of an attribute's component
abbrev pub fs_component_end : Attribute → Scanner
fs_component_end Part = part_end
fs_component_end Language = language_end
fs_component_end _ = text_end

-- a field: a colon and a component
unfoldable pub field_end : Scanner → Scanner
field_end component s = scan_one is_fs_colon s >>= component

-- the fields of these attributes
abbrev pub fs_fields_end : List Attribute → Scanner
fs_fields_end [] s = Ok s
fs_fields_end (a ∷ rest) s = field_end (fs_component_end a) s >>= fs_fields_end rest

-- what follows the version if each value there is ANY
abbrev pub any_fs_tail : List ℕ
any_fs_tail = codes ":*:*:*:*:*:*:*"

-- the prefix, eleven fields, and the end of the text
unfoldable pub whole_end : Scanner
whole_end s = literal (codes "cpe:2.3") s >>= scan_both (fs_fields_end attributes) scan_ending
