-- The text of a value, made byte by byte from its component. A bare `.` or `-` gets a backslash, and any other byte is
-- unchanged. No public contract uses these definitions.
use Rattle.std.specs.Prelude.{ℕ, List, [], ◌∷◌, ◌++◌, codes, ◌||◌, ◌==◌, if◌then◌else◌}
use Rattle.std.specs.List.{flat_map}
use Rattle.cpe_fs.specs.Spans.{is_only}

-- a byte of a component, as a name has it
abbrev pub requoted : ℕ → List ℕ
requoted c = if c == 46 || c == 45 then 92 ∷ c ∷ [] else c ∷ []

-- a rewritten component between double quotes
abbrev pub fs_in_quotes : List ℕ → List ℕ
fs_in_quotes s = 34 ∷ (flat_map requoted s ++ 34 ∷ [])

-- the text of a value in a name: `ANY` for `*`, `NA` for `-`, and otherwise a text in quotes
unfoldable pub span_text : List ℕ → List ℕ
span_text s = if is_only 42 s then codes "ANY" else (if is_only 45 s then codes "NA" else fs_in_quotes s)
