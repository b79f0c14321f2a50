-- The canonical URI of a name, made byte by byte from the texts of its values. A backslash is dropped, and the byte
-- after it is spelled as in a URI. An unquoted `?` or `*` is a special. No public contract uses these definitions.
use Rattle.std.specs.Prelude.{ℕ, ◌-◌, Bool, true, false, not, ◌&&◌, ◌||◌, ◌==◌, nat_lt, if◌then◌else◌, List, [], ◌∷◌, ◌++◌, length, take, codes}
use Rattle.std.specs.List.{list_all}
use Rattle.cpe_values.specs.declared.spelling.Style.TheVariants as style
use Rattle.cpe_values.specs.Spelling.{is_bare}
use Rattle.cpe_name.specs.Eleven.{Written}
use Rattle.cpe_uri.specs.Spelling.{uri_character}
use Rattle.cpe_uri.specs.Canon.{trimmed}

-- ---- texts of values

-- the byte is a backslash that quotes the next byte
abbrev pub quotes : Bool → ℕ → Bool
quotes quoted c = not quoted && c == 92

-- the code of a byte; an unquoted `?` or `*` has the code of a special
abbrev pub code_from : Bool → ℕ → ℕ
code_from true c = c
code_from false c = if c == 63 then 1 else (if c == 42 then 2 else c)

-- the spelling of a byte in a URI; a backslash that quotes has none
abbrev pub spelled_byte : Bool → ℕ → List ℕ
spelled_byte quoted c = if quotes quoted c then [] else uri_character (code_from quoted c)

-- the number of bytes that an unquoted byte has in a URI
abbrev pub unquoted_length : ℕ → ℕ
unquoted_length c = if c == 92 then 0 else (if is_bare style.Formatted c then 1 else 3)

-- a byte with the unquoted length `n` gets a percent form; a quoted backslash gets one too
abbrev pub is_coded : Bool → ℕ → Bool
is_coded quoted n = nat_lt 1 n || quoted && n == 0

-- the spellings of these bytes in a URI, one after the other; `quoted` says whether the first byte is quoted
unfoldable pub requoted : Bool → List ℕ → List ℕ
requoted quoted [] = []
requoted quoted (c ∷ s) = spelled_byte quoted c ++ requoted (quotes quoted c) s

-- the component of the value that has this text; the empty text is ANY
unfoldable pub component_from : List ℕ → List ℕ
component_from [] = []
component_from (c ∷ s) = if c == 34 then requoted false (take (length s - 1) s) else (if c == 78 then 45 ∷ [] else [])

-- the text is that of ANY, or empty
abbrev pub says_any : List ℕ → Bool
says_any [] = true
says_any (c ∷ s) = not (c == 34 || c == 78)

-- the prefix `cpe:/` and the first component
unfoldable pub first_from : List ℕ → List ℕ
first_from u = codes "cpe:/" ++ component_from u

-- a byte, and after it the component of a value
unfoldable pub behind : ℕ → List ℕ → List ℕ
behind before u = before ∷ component_from u

-- ---- the whole URI

-- the texts of the attributes that names of CPE 2.2 don't have
abbrev pub extended_texts : Written → List (List ℕ)
extended_texts w = w.sw_edition.now ∷ w.target_sw.now ∷ w.target_hw.now ∷ w.other.now ∷ []

-- the edition and the four extended attributes, with a tilde before each
unfoldable pub packed_from : Written → List ℕ
packed_from w = behind 126 w.edition.now ++ behind 126 w.sw_edition.now ++ behind 126 w.target_sw.now ++ behind 126 w.target_hw.now ++ behind 126 w.other.now

-- a colon, and the edition alone if the four extended attributes are ANY, or otherwise the packed fields
unfoldable pub edition_from : Written → List ℕ
edition_from w = if list_all says_any (extended_texts w) then behind 58 w.edition.now else 58 ∷ packed_from w

-- the URI, still with all colons at its end
unfoldable pub untrimmed_from : Written → List ℕ
untrimmed_from w = first_from w.part.now ++ behind 58 w.vendor.now ++ behind 58 w.product.now ++ behind 58 w.version.now ++ behind 58 w.update.now ++ edition_from w ++ behind 58 w.language.now

unfoldable pub uri_from : Written → List ℕ
uri_from w = trimmed 58 (untrimmed_from w)

-- ---- the last byte

-- the last byte is a colon
abbrev pub ends_in_colon : List ℕ → Bool
ends_in_colon [] = false
ends_in_colon (c ∷ []) = c == 58
ends_in_colon (c ∷ d ∷ s) = ends_in_colon (d ∷ s)
