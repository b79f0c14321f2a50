-- Lists of different names.
use Rattle.std.specs.Prelude.{List, [], ◌∷◌, ◌++◌, if◌then◌else◌}
use Rattle.std.specs.List.{list_any}
use Rattle.cpe_rows.specs.cpe_name.Eleven.{Values}
use Rattle.cpe_rows.specs.Names.{is_same}

-- the name is appended, unless the list has it
abbrev pub with_seen_name : List Values → Values → List Values
with_seen_name names n = if list_any (is_same n) names then names else names ++ n ∷ []
