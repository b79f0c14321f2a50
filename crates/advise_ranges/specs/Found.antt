-- Advisories as they are kept, and which of them are tested for a question about a name.
use Rattle.std.specs.Prelude.{ℕ, Bool, false, ◌&&◌, ◌||◌, if◌then◌else◌, List, [], filter, length, option_to_list, position, slice_get}
use Rattle.std.specs.Option.{option_map_or}
use Rattle.std.specs.List.{cons_option, range_with_len}
use Rattle.std.specs.Str.{bytes_eq}
use Rattle.cpe_rows.specs.cpe_values.declared.value.Value.{Value}
use Rattle.cpe_rows.specs.cpe_values.declared.value.Value.TheVariants as value
use Rattle.cpe_rows.specs.cpe_name.Eleven.{Values}
use Rattle.advise_ranges.specs.Answers.{ids_affecting}
use Rattle.advise_ranges.specs.Groups.{Grouped, AreAdvisoriesGrouped, group, is_plain, is_in_group}
use Rattle.advise_ranges.specs.Kept.{advisory_from, advisories_in, AreLower}
use Rattle.advise_ranges.specs.declared.advisory.Advisory.{Advisory}
use Rattle.advise_ranges.specs.declared.advised.Terms.{Terms}

-- The names are in lower case, and the id of each advisory is in the group of its product.
pub record AreLawfulAdvisories (es : List (List ℕ × Terms)) (gs : Grouped) : Type 0 where
  pub lower : AreLower es
  pub grouped : AreAdvisoriesGrouped (advisories_in es) gs

-- the place of an id in the list, if it is there
abbrev pub advice_place_in : List (List ℕ) → List ℕ → List ℕ
advice_place_in all id = cons_option (position (bytes_eq id) all) []

-- there is an advisory at this place, and it passes
abbrev pub passes_at : (Advisory → Bool) → List (List ℕ × Terms) → ℕ → Bool
passes_at passes es k = option_map_or (λ e. passes (advisory_from e)) (slice_get es k) false

-- the places of the advisories that pass, in rising order
abbrev pub places_where : (Advisory → Bool) → List (List ℕ × Terms) → List ℕ
places_where passes es = filter (passes_at passes es) (range_with_len 0 (length es))

-- the id of the advisory at this place, if it affects an item of this name
abbrev pub affecting_there : Values → List (List ℕ × Terms) → ℕ → List (List ℕ)
affecting_there n es k = ids_affecting n (advisories_in (option_to_list (slice_get es k)))

-- the product of the advisory isn't plain, or it is the given product and this is plain
abbrev pub is_beside : Value → Advisory → Bool
is_beside product a = is_in_group value.Any a || (is_plain product && is_in_group product a)

-- the ids of the product's own group; only a plain product has such a group
abbrev pub own_group : Grouped → Value → List (List ℕ)
own_group gs product = if is_plain product then group gs product else []
