-- The formatted string of a name, made byte by byte from the texts of its values. A backslash before `.` or `-` is
-- dropped, and any other byte is unchanged. No public contract uses these definitions.
use Rattle.std.specs.Prelude.{ℕ, ◌-◌, Bool, false, List, [], ◌∷◌, ◌++◌, length, take, codes, ◌||◌, ◌&&◌, ◌==◌, if◌then◌else◌}
use Rattle.cpe_name.specs.Eleven.{Written}

-- the bytes begin with `.` or `-`
abbrev pub begins_bare : List ℕ → Bool
begins_bare [] = false
begins_bare (c ∷ s) = c == 46 || c == 45

-- the bytes without each backslash before `.` or `-`
unfoldable pub unquoted : List ℕ → List ℕ
unquoted [] = []
unquoted (c ∷ s) = if c == 92 && begins_bare s then unquoted s else c ∷ unquoted s

-- the component of the value that has this text; the empty text is ANY
unfoldable pub component_from : List ℕ → List ℕ
component_from [] = 42 ∷ []
component_from (c ∷ s) = if c == 34 then unquoted (take (length s - 1) s) else (if c == 78 then 45 ∷ [] else 42 ∷ [])

-- a key, and after it the component of a value
unfoldable pub keyed : List ℕ → List ℕ → List ℕ
keyed key u = key ++ component_from u

-- the whole formatted string
abbrev pub written_string : Written → List ℕ
written_string w =
    keyed (codes "cpe:2.3:") w.part.now ++ keyed (codes ":") w.vendor.now ++ keyed (codes ":") w.product.now ++ keyed (codes ":") w.version.now ++ keyed (codes ":") w.update.now ++ keyed (codes ":") w.edition.now ++ keyed (codes ":") w.language.now ++ keyed (codes ":") w.sw_edition.now ++ keyed (codes ":") w.target_sw.now ++ keyed (codes ":") w.target_hw.now ++ keyed (codes ":") w.other.now
