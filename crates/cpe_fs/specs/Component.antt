-- The component of a single value (NIST IR 7695, 6.2).
use Rattle.std.specs.Prelude.{◌≡◌, ℕ, Bool, true, false, List, [], ◌∷◌, Option, Some, None, Result, Ok, Err, if◌then◌else◌}
use Rattle.cpe_values.specs.declared.value.Value.{Value}
use Rattle.cpe_values.specs.Values.{IsValue}
use Rattle.cpe_fs.specs.declared.component.ComponentFault.{ComponentFault}
use Rattle.cpe_fs.specs.declared.component.ComponentFault.TheVariants as fault
use Rattle.cpe_fs.specs.Grammar.{fs_component}
use Rattle.cpe_fs.specs.Scanning.{text_end}
use Rattle.cpe_fs.specs.SpanValues.{fs_value_at}

-- the value has this component
abbrev pub HasComponent : Value → List ℕ → Type 0
HasComponent v s = IsValue v × (s ≡ fs_component v)

-- some value has this component
abbrev pub IsFsComponent : List ℕ → Type 0
IsFsComponent s = (v : Value) × HasComponent v s

-- What a fault says of a text. `NotComponent` means that no value has the text, and `Memory` that some value has it.
abbrev pub RefusesComponent : ComponentFault → List ℕ → Type 0
RefusesComponent fault.NotComponent s = ¬ (IsFsComponent s)
RefusesComponent fault.Memory s = IsFsComponent s

-- the scanner succeeded, and nothing is left
abbrev pub is_taken : Result (List ℕ) ℕ → Bool
is_taken (Ok []) = true
is_taken (Ok (c ∷ s)) = false
is_taken (Err left) = false

-- the scanner reads the whole text
unfoldable pub is_component : List ℕ → Bool
is_component s = is_taken (text_end s)

-- the value that has this component, if there is one; see the law `read_component_is`
unfoldable pub read_component : List ℕ → Option Value
read_component s = if is_component s then Some (fs_value_at s) else None
