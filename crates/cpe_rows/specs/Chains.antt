-- Chains of deprecations (NIST IR 7697). A path is a list of entries, each a successor of the entry before it. By the
-- law `chains_are_paths`, an entry is in a chain exactly if a path leads to it.
use Rattle.std.specs.Prelude.{List, [], ◌∷◌, map, filter, Bool, if◌then◌else◌, is_none}
use Rattle.std.specs.Option.{option_map_or}
use Rattle.std.specs.List.{list_any}
use Rattle.cpe_name.specs.Eleven.{Values}
use Rattle.cpe_rows.specs.Names.{is_same}
use Rattle.cpe_rows.specs.Reach.{is_reached}
use Rattle.cpe_rows.specs.Rows.{is_named}
use Rattle.cpe_rows.specs.declared.entry.Entry.{Entry}

abbrev pub successors_of : Entry → List Values
successors_of e = option_map_or (λ d. d.successors) e.deprecation []

abbrev pub is_active : Entry → Bool
is_active e = is_none e.deprecation

-- The second entry is a successor of the first.
abbrev pub is_successor : Entry → Entry → Bool
is_successor a b = list_any (is_same b.name) (successors_of a)

-- the chain of a name: the entries to which a path from the name's entry leads. It is empty if no entry has the name.
abbrev pub chain : List Entry → Values → List Entry
chain entries n = filter (is_reached is_successor entries (is_named n)) entries

-- A path leads from the entry of the first name to that of the second.
abbrev pub leads_to : List Entry → Values → Values → Bool
leads_to entries from to = list_any (is_named to) (chain entries from)

-- the names of the active entries of the chain; if no entry has the name, the name alone
abbrev pub ends : List Entry → Values → List Values
ends entries n = if list_any (is_named n) entries then map (λ e. e.name) (filter is_active (chain entries n)) else n ∷ []
