-- Ids of advisories in groups, by the products of their names.
use Rattle.std.specs.Prelude.{◌≡◌, ℕ, Bool, false, not, if◌then◌else◌, List, [], map, filter}
use Rattle.std.specs.Option.{option_map_or}
use Rattle.std.specs.Map.{lookup}
use Rattle.cpe_rows.specs.cpe_values.declared.value.Value.{Value}
use Rattle.cpe_rows.specs.cpe_values.declared.value.Value.TheVariants as value
use Rattle.cpe_rows.specs.cpe_values.Parts.{has_special}
use Rattle.cpe_rows.specs.cpe_values.Same.{same_value}
use Rattle.advise_ranges.specs.declared.advisory.Advisory.{Advisory}

abbrev pub Grouped : Type 0
Grouped = List (Value × List (List ℕ))

-- the ids of a group, in their order
abbrev pub group : Grouped → Value → List (List ℕ)
group gs v = option_map_or (λ ids. ids) (lookup (same_value v) gs) []

abbrev pub is_plain : Value → Bool
is_plain value.Any = false
is_plain value.Na = false
is_plain (value.Text t) = not (has_special t)

-- the group of a product: a plain product has its own, and all other products are in the group of ANY
abbrev pub group_of : Value → Value
group_of product = if is_plain product then product else value.Any

abbrev pub is_in_group : Value → Advisory → Bool
is_in_group v a = same_value (group_of a.name.product) v

abbrev pub ids_in_group : Value → List Advisory → List (List ℕ)
ids_in_group v advisories = map (λ (a : Advisory). a.id) (filter (is_in_group v) advisories)

-- each group has exactly the ids of its advisories, in their order
abbrev pub AreAdvisoriesGrouped : List Advisory → Grouped → Type 0
AreAdvisoriesGrouped advisories gs = (v : Value) → group gs v ≡ ids_in_group v advisories
