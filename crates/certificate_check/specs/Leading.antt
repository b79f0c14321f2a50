-- Where names lead by the deprecations of entries. Mode `follow` uses all entries, and mode `plain` uses none.
use Rattle.std.specs.Prelude.{◌≡◌, List, [], find, Bool, true, Option, None, is_none}
use Rattle.std.specs.List.{list_any, list_all}
use Rattle.std.specs.Option.{option_map_or}
use Rattle.cpe_rows.specs.cpe_name.Eleven.{Values}
use Rattle.cpe_rows.specs.Rows.{Rows, is_named}
use Rattle.cpe_rows.specs.Chains.{ends}
use Rattle.cpe_rows.specs.Lawful.{are_different, has_successors}
use Rattle.cpe_rows.specs.declared.entry.Entry.{Entry}
use Rattle.cpe_rows.specs.declared.entry.Deprecation.{Deprecation}
use Rattle.cpe_rows.specs.declared.statement.Mode.{Mode}
use Rattle.cpe_rows.specs.declared.statement.Mode.TheVariants.{Plain, Follow}

abbrev pub followed : Rows → Mode → List Entry
followed rows Plain = []
followed rows Follow = rows.entries

-- the deprecation of this name's entry; none if the name has no entry, or if the entry isn't deprecated
abbrev pub deprecation_of : List Entry → Values → Option Deprecation
deprecation_of entries n = option_map_or (λ e. e.deprecation) (find (is_named n) entries) None

-- the successors of this name's entry
abbrev pub next_of : List Entry → Values → List Values
next_of entries n = option_map_or (λ d. d.successors) (deprecation_of entries n) []

-- the name is an end: it has no deprecated entry
abbrev pub is_end_of : List Entry → Values → Bool
is_end_of entries n = is_none (deprecation_of entries n)

-- the names of the entries are different, and each successor is an entry, as in lawful rows
pub record AreLinkedEntries (entries : List Entry) : Type 0 where
  pub named : are_different (λ e. is_named e.name) entries ≡ true
  pub to_entries : list_all (has_successors entries) entries ≡ true

-- the list has the ends of the name: some name of the list meets a condition exactly if some end meets it
abbrev pub AreEndsOfName : List Entry → Values → List Values → Type 0
AreEndsOfName entries n found = (passes : Values → Bool) → list_any passes found ≡ list_any passes (ends entries n)
