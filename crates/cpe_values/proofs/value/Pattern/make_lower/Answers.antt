use Rattle.cpe_values.specs.Forms.{form_parts}
use Rattle.cpe_values.proofs.LowerTexts.{lower_text}
use Rattle.cpe_values.proofs.value.Pattern.make_lower.Goals as goal

pub invariant_of-self : goal.invariant_of-self
invariant_of-self c = rw c.make_lower_form.ensures (lower_text (form_parts c.self.inside.form) c.self.invariant)
