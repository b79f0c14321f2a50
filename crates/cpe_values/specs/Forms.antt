-- The parts of a text, computed from its form in memory. No public clause uses this definition.
use Rattle.cpe_values.specs.declared.value.Edge.TheVariants as edge
use Rattle.cpe_values.specs.declared.value.ValueForm.{ValueForm}
use Rattle.cpe_values.specs.declared.value.ValueForm.TheVariants.{Short, Long}
use Rattle.cpe_values.specs.Parts.{Parts, parts}

abbrev pub form_parts : ValueForm → Parts
form_parts (Short body) = parts edge.None body edge.None
form_parts (Long text) = parts text.value.lead text.value.body.items text.value.trail
