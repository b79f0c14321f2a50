-- The values that an attribute may have: ANY, NA, or a text with lawful parts (NIST IR 7695, 5.3).
use Rattle.cpe_values.specs.declared.value.Value.{Value}
use Rattle.cpe_values.specs.declared.value.Value.TheVariants as value
use Rattle.cpe_values.specs.Parts.{IsText}

abbrev pub IsValue : Value → Type 0
IsValue value.Any = Unit {0}
IsValue value.Na = Unit {0}
IsValue (value.Text t) = IsText t
