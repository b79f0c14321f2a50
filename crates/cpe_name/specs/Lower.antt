-- Names in lower case (NIST IR 7695, 5.3).
use Rattle.std.specs.Prelude.{◌≡◌, map}
use Rattle.cpe_values.specs.Lower.{lower_value}
use Rattle.cpe_name.specs.Eleven.{Values}
use Rattle.cpe_name.specs.Names.{attributes, value_of, named}

-- the name with all letters of its values in lower case
abbrev pub lower_name : Values → Values
lower_name w = named (map (λ a. lower_value (value_of w a)) attributes)

-- the name has no letter in upper case
abbrev pub IsLower : Values → Type 0
IsLower w = lower_name w ≡ w
