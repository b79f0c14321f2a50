-- Giving all entries their deprecations in one call (NIST IR 7697).
use Rattle.std.specs.Prelude.{◌&&◌, Bool, true, List, [], length, Option}
use Rattle.std.specs.List.{list_all, list_any}
use Rattle.std.specs.Option.{option_map_or}
use Rattle.cpe_rows.specs.cpe_name.Eleven.{Values}
use Rattle.cpe_rows.specs.Faults.{is_count}
use Rattle.cpe_rows.specs.Lawful.{are_different}
use Rattle.cpe_rows.specs.Names.{is_same}
use Rattle.cpe_rows.specs.Rows.{is_named}
use Rattle.cpe_rows.specs.declared.entry.Entry.{Entry}
use Rattle.cpe_rows.specs.declared.entry.Deprecation.{Deprecation}
pub use Rattle.cpe_dictionary.specs.GivenEntries.{each_deprecated}

-- the deprecation, if there is one, has as many successors as its kind allows
abbrev pub is_counted : Option Deprecation → Bool
is_counted d = option_map_or (λ x. is_count x.kind (length x.successors)) d true

abbrev pub successors_in : Option Deprecation → List Values
successors_in d = option_map_or (λ x. x.successors) d []

-- each name is that of an entry
abbrev pub are_entries : List Entry → List Values → Bool
are_entries es ns = list_all (λ n. list_any (is_named n) es) ns

-- an entry may have this deprecation: its successors are as many as its kind allows, all entries, and all different;
-- chains and ends aren't tested
abbrev pub may_have_deprecation : List Entry → Option Deprecation → Bool
may_have_deprecation es d = is_counted d && (are_entries es (successors_in d) && are_different is_same (successors_in d))
