-- The text that a borrowed text equals, and the value that a borrowed value equals.
use Rattle.cpe_values.specs.declared.value.Value.{Value}
use Rattle.cpe_values.specs.declared.value.Value.TheVariants as value
use Rattle.cpe_values.specs.declared.borrowed.TextRef.{TextRef}
use Rattle.cpe_values.specs.declared.borrowed.ValueRef.{ValueRef}
use Rattle.cpe_values.specs.declared.borrowed.ValueRef.TheVariants as borrowed
use Rattle.cpe_values.specs.Parts.{Parts, parts}

abbrev pub text_lent : TextRef → Parts
text_lent t = parts t.lead t.stem.now t.trail

abbrev pub value_lent : ValueRef → Value
value_lent borrowed.Any = value.Any
value_lent borrowed.Na = value.Na
value_lent (borrowed.Text t) = value.Text (text_lent t)
