-- Marks of names by their places, and how the marks decide which names are in a cover. No public clause uses these definitions.
use Rattle.std.specs.Prelude.{◌≡◌, ◌<◌, ℕ, Bool, false, ◌||◌, ◌&&◌, not, List, length, get_or}
use Rattle.std.specs.List.{list_any}
use Rattle.cpe_rows.specs.cpe_name.Eleven.{Values}
use Rattle.cpe_rows.specs.Names.{has_wildcards}
use Rattle.cpe_relation.specs.NameRelation.{covers}
use Rattle.names_in_order.specs.Places.{name_of_place}
use Rattle.cover_lines.specs.Shapes.{finds_wider}

abbrev pub is_name_marked : List Bool → ℕ → Bool
is_name_marked marks k = get_or marks k false

-- the first name has a special and covers the second
abbrev pub matches_name : Values → Values → Bool
matches_name m n = has_wildcards m && covers m n

-- some of the names has a special and covers this name
abbrev pub is_matched : List Values → Values → Bool
is_matched names n = list_any (λ m. matches_name m n) names

-- There is one mark for each name. A name is marked exactly if some of the sources has a special and covers it.
pub record AreCoverMarks (sources names : List Values) (marks : List Bool) : Type 0 where
  pub len : length marks ≡ length names
  pub marked : (k : ℕ) → k < length names → is_name_marked marks k ≡ is_matched sources (name_of_place names k)

-- the name at this place isn't marked, and if it has no special, no name of a wider shape covers it
abbrev pub stays : List Values → List Values → List Bool → ℕ → Bool
stays names shapes marks k = not (is_name_marked marks k) && (has_wildcards (name_of_place names k) || not (list_any (finds_wider names (name_of_place names k)) shapes))
