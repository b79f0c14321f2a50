-- Names that have a special in one of their values.
use Rattle.std.specs.Prelude.{Bool}
use Rattle.std.specs.List.{list_any}
use Rattle.cpe_values.specs.Lower.{has_specials}
use Rattle.cpe_name.specs.Eleven.{Values}
use Rattle.cpe_name.specs.Names.{attributes, value_of}

abbrev pub name_has_specials : Values → Bool
name_has_specials name = list_any (λ a. has_specials (value_of name a)) attributes
