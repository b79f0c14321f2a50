-- Values in lower case, and values with specials (NIST IR 7695, 5.3).
use Rattle.std.specs.Prelude.{Bool, false}
use Rattle.std.specs.Str.{str_to_ascii_lowercase}
use Rattle.cpe_values.specs.declared.value.Value.{Value}
use Rattle.cpe_values.specs.declared.value.Value.TheVariants as value
use Rattle.cpe_values.specs.Parts.{Parts, parts, has_special}

-- the text with every letter of its body in lower case
abbrev pub lower_parts : Parts → Parts
lower_parts t = parts t.lead (str_to_ascii_lowercase t.body) t.trail

abbrev pub lower_value : Value → Value
lower_value value.Any = value.Any
lower_value value.Na = value.Na
lower_value (value.Text t) = value.Text (lower_parts t)

-- the value is a text with a special before or after its body
abbrev pub has_specials : Value → Bool
has_specials value.Any = false
has_specials value.Na = false
has_specials (value.Text t) = has_special t
