-- The value of a text in a well-formed name, as the code finds it. `bound_by` is the only public definition that uses
-- this value. A law of each binding describes `bound_by`.
use Rattle.std.specs.Prelude.{◌≡◌, ℕ, ◌-◌, ◌==◌, List, [], ◌∷◌, length, take, drop, if◌then◌else◌}
use Rattle.cpe_values.specs.declared.value.Value.{Value}
use Rattle.cpe_values.specs.declared.value.Value.TheVariants as value
use Rattle.cpe_values.specs.Values.{IsValue}
use Rattle.cpe_values.specs.Unspelling.{parts_at}
use Rattle.cpe_name.specs.Text.{value_text}
use Rattle.cpe_name.specs.Spans.{or_any}

-- the text of some value, or an empty text, which means ANY
pub record IsAnyText (u : List ℕ) : Type 0 where
  pub value : Value
  pub good : IsValue value
  pub is : or_any u ≡ value_text value

-- the text without its first and last byte
abbrev pub inner : List ℕ → List ℕ
inner u = take (length u - 1 - 1) (drop 1 u)

abbrev pub value_from : List ℕ → Value
value_from [] = value.Any
value_from (c ∷ u) = if c == 34 then value.Text (parts_at (inner (c ∷ u))) else (if c == 78 then value.Na else value.Any)
