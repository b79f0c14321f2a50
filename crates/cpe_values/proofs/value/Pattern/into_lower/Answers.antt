use Rattle.cpe_values.specs.Forms.{form_parts}
use Rattle.cpe_values.proofs.LowerTexts.{lower_text}
use Rattle.cpe_values.proofs.value.Pattern.into_lower.Goals as goal

pub invariant_of-result : goal.invariant_of-result
invariant_of-result c = rw c.make_lower_form.ensures (lower_text (form_parts c.self.inside.form) c.self.invariant)
