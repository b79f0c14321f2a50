-- Tests of equality of texts and values, and their hash input.
use Rattle.std.specs.Prelude.{ℕ, Bool, true, false, ◌&&◌, ◌==◌, nat_eq, List, [], ◌∷◌}
use Rattle.std.specs.Hash as fed
use lib.Pointwise.{pointwise}
use Rattle.cpe_values.specs.declared.value.Edge.{Edge}
use Rattle.cpe_values.specs.declared.value.Edge.TheVariants as edge
use Rattle.cpe_values.specs.declared.value.Value.{Value}
use Rattle.cpe_values.specs.declared.value.Value.TheVariants as value
use Rattle.cpe_values.specs.Parts.{Parts}

abbrev pub same_edge : Edge → Edge → Bool
same_edge edge.None edge.None = true
same_edge edge.Star edge.Star = true
same_edge (edge.Marks m) (edge.Marks n) = m == n
same_edge _ _ = false

abbrev pub same_parts : Parts → Parts → Bool
same_parts a b = same_edge a.lead b.lead && pointwise nat_eq a.body b.body && same_edge a.trail b.trail

abbrev pub same_value : Value → Value → Bool
same_value value.Any value.Any = true
same_value value.Na value.Na = true
same_value (value.Text s) (value.Text t) = same_parts s t
same_value _ _ = false

abbrev pub parts_input : Parts → List (List ℕ)
parts_input t = t.body ∷ []

abbrev pub value_input : Value → List (List ℕ)
value_input value.Any = []
value_input value.Na = fed.u8 1
value_input (value.Text t) = parts_input t
