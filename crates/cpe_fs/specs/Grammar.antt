-- Formatted strings and their names (NIST IR 7695, 6.2).
use Rattle.std.specs.Prelude.{◌≡◌, ℕ, List, [], ◌∷◌, ◌++◌, map, codes}
use Rattle.std.specs.List.{join_with_byte}
use Rattle.name_grammar.specs.Place.{Leaves}
use Rattle.cpe_values.specs.declared.value.Value.{Value}
use Rattle.cpe_values.specs.declared.value.Value.TheVariants as value
use Rattle.cpe_values.specs.declared.spelling.Style.TheVariants as style
use Rattle.cpe_values.specs.Spelling.{spelling}
use Rattle.cpe_name.specs.Eleven.{Values}
use Rattle.cpe_name.specs.Names.{attributes, value_of, IsName}
use Rattle.cpe_fs.specs.declared.FsFault.{FsFault}
use Rattle.cpe_fs.specs.declared.FsFault.TheVariants as fault

-- the component of a value: `*` for ANY, `-` for NA, or the spelling of a text
abbrev pub fs_component : Value → List ℕ
fs_component value.Any = 42 ∷ []
fs_component value.Na = 45 ∷ []
fs_component (value.Text t) = spelling style.Formatted t

-- the prefix `cpe:2.3:`, and eleven components joined by colons
abbrev pub fs_text : Values → List ℕ
fs_text name = codes "cpe:2.3:" ++ join_with_byte 58 (map (λ a. fs_component (value_of name a)) attributes)

-- the name has this formatted string
abbrev pub Fs : Values → List ℕ → Type 0
Fs name s = IsName name × (s ≡ fs_text name)

-- some name has this formatted string
abbrev pub IsFs : List ℕ → Type 0
IsFs s = (name : Values) × Fs name s

-- no name has this text, and this is its place: the length of its longest beginning with which some formatted string
-- begins
abbrev pub LeavesAt : List ℕ → ℕ → Type 0
LeavesAt s place = Leaves IsFs s place

-- What a fault says of a text. `At` has the place of a text that no name has. `Memory` means that some name has the
-- text.
abbrev pub RefusesFs : FsFault → List ℕ → Type 0
RefusesFs (fault.At place) s = LeavesAt s place
RefusesFs fault.Memory s = IsFs s
