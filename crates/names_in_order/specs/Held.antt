-- The names of the numbers that an index holds, and their places in a list.
use Rattle.std.specs.Prelude.{ℕ, List, [], map, position}
use Rattle.std.specs.List.{cons_option}
use Rattle.name_index.specs.cpe_name.Eleven.{Values}
use Rattle.name_index.specs.cpe_name.Equal.{same_name}
use Rattle.name_index.specs.declared.table.NameId.{NameId}
use Rattle.name_index.specs.Table.{Names, kept_at}

-- the names of the held numbers
abbrev pub names_held : Names → List (ℕ × ℕ) → List Values
names_held names held = map (λ (x : ℕ × ℕ). (kept_at names x.0).name) held

-- the place of a name as a list: one place, or none if the name is not in `names`
abbrev pub place_list : List Values → Values → List ℕ
place_list names name = cons_option (position (same_name name) names) []

-- the place of the name of a number, as a list of at most one place
abbrev pub places_of_name : List Values → Names → NameId → List ℕ
places_of_name names table id = place_list names (kept_at table id.0).name
