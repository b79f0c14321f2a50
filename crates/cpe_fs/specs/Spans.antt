-- Where the components of a formatted string are, as `scan_fs` finds them. Of the public definitions, only `read_fs`
-- and `read_component` use this.
use Rattle.std.specs.Prelude.{◌≡◌, ℕ, ◌-◌, ◌≤◌, Bool, false, List, [], ◌∷◌, length, take, map, codes, Result, Ok, Err, ◌==◌}
use Rattle.name_grammar.specs.Scanners.{Scanner}
use Rattle.cpe_values.specs.declared.value.Value.{Value}
use Rattle.cpe_values.specs.Values.{IsValue}
use Rattle.cpe_name.specs.declared.attribute.Attribute.{Attribute}
use Rattle.cpe_name.specs.Eleven.{Values, Written}
use Rattle.cpe_name.specs.Names.{attributes, value_of}
use Rattle.cpe_fs.specs.Grammar.{fs_component, Fs}
use Rattle.cpe_fs.specs.Scanning.{fs_component_end, field_end}
use Rattle.cpe_name.specs.Spans.{texts, total_length}

-- the bytes are this byte alone
abbrev pub is_only : ℕ → List ℕ → Bool
is_only byte [] = false
is_only byte (c ∷ []) = c == byte
is_only byte (c ∷ d ∷ s) = false

-- the component of some value
pub record IsFsSpan (s : List ℕ) : Type 0 where
  pub value : Value
  pub good : IsValue value
  pub spells : fs_component value ≡ s

-- the components are those of a name that has this formatted string
pub record AreFsComponents (text : List ℕ) (c : Written) : Type 0 where
  pub name : Values
  pub fs : Fs name text
  pub are : texts c ≡ map (λ a. fs_component (value_of name a)) attributes
  pub within : total_length (texts c) ≤ length text

-- ---- where the components are

abbrev left_of : Result (List ℕ) ℕ → List ℕ
left_of (Ok rest) = rest
left_of (Err left) = []

-- the bytes left after a colon and the component that the scanner reads
unfoldable pub behind_field : Scanner → List ℕ → List ℕ
behind_field fs_component s = left_of (field_end fs_component s)

-- the bytes between a colon and the end `rest`
abbrev pub quoted_between : List ℕ → List ℕ → List ℕ
quoted_between [] rest = []
quoted_between (colon ∷ s) rest = take (length s - length rest) s

-- the component that the scanner reads after a colon
unfoldable pub component_at : Scanner → List ℕ → List ℕ
component_at fs_component s = quoted_between s (behind_field fs_component s)

-- the components of these attributes
abbrev pub components_at : List Attribute → List ℕ → List (List ℕ)
components_at [] s = []
components_at (a ∷ rest) s = component_at (fs_component_end a) s ∷ components_at rest (behind_field (fs_component_end a) s)

-- the components after the version if each value there is ANY
abbrev pub any_components : List (List ℕ)
any_components = codes "*" ∷ codes "*" ∷ codes "*" ∷ codes "*" ∷ codes "*" ∷ codes "*" ∷ codes "*" ∷ []
