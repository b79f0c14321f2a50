-- Which items an advisory affects.
use Rattle.std.specs.Prelude.{ℕ, Bool, true, false, not, ◌&&◌, ◌||◌, List, Option, is_some}
use Rattle.std.specs.Option.{option_map_or}
use Rattle.std.specs.declared.cmp.Ordering.{Ordering}
use Rattle.std.specs.Ordering.{match_ordering}
use Rattle.cpe_rows.specs.cpe_values.declared.value.Value.{Value}
use Rattle.cpe_rows.specs.cpe_values.declared.value.Value.TheVariants as value
use Rattle.cpe_rows.specs.cpe_values.Parts.{has_special}
use Rattle.cpe_rows.specs.cpe_name.Eleven.{Values}
use Rattle.cpe_relation.specs.NameRelation.{covers}
use Rattle.advise_versions.specs.Order.{version_order}
use Rattle.advise_ranges.specs.declared.advisory.Bound.{Bound}
use Rattle.advise_ranges.specs.declared.advisory.Advisory.{Advisory}

-- the order is less, or it is equal and the bound isn't excluded
abbrev pub passes : Bool → Ordering → Bool
passes excluded order = match_ordering order true (not excluded) false

-- the version is greater than the start, or equal to a start that isn't excluded
abbrev pub is_behind : Bound → List ℕ → Bool
is_behind start version = passes start.excluded (version_order start.version version)

-- the version is less than the end, or equal to an end that isn't excluded
abbrev pub is_before : Bound → List ℕ → Bool
is_before end version = passes end.excluded (version_order version end.version)

-- the version meets each of the two bounds that is given
abbrev pub meets_bounds : Option Bound → Option Bound → List ℕ → Bool
meets_bounds start end version = option_map_or (λ b. is_behind b version) start true && option_map_or (λ b. is_before b version) end true

-- the value is a text without specials, and its body meets the bounds
abbrev pub has_version_in : Option Bound → Option Bound → Value → Bool
has_version_in start end value.Any = false
has_version_in start end value.Na = false
has_version_in start end (value.Text text) = not (has_special text) && meets_bounds start end text.body

-- there is no bound, or the version is a text without specials that meets the bounds
abbrev pub is_in_range : Option Bound → Option Bound → Value → Bool
is_in_range start end version = not (is_some start || is_some end) || has_version_in start end version

-- the name of the advisory covers the item, and the version of the item is in the range
abbrev pub affects : Advisory → Values → Bool
affects a item = covers a.name item && is_in_range a.start a.end item.version
