-- The name that a borrowed name equals.
use Rattle.cpe_values.specs.Borrowed.{value_lent}
use Rattle.cpe_name.specs.Eleven.{Values, NameRef, at, each}

abbrev pub name_lent : NameRef → Values
name_lent n = each (λ a. value_lent (at n a))
