-- The edit of an entry's deprecation and its faults, by the numbers of entries.
use Rattle.std.specs.Prelude.{◌≡◌, ℕ, ◌*◌, ◌<◌, ◌≤◌, List, [], true, length, find, nat_eq, position, Some, None, option_and_then, slice_get, slice_set}
use Rattle.std.specs.List.{Contains, IsDistinct, list_any, list_all}
use Rattle.cpe_rows.specs.cpe_name.Eleven.{Values}
use Rattle.cpe_rows.specs.Names.{is_same}
use Rattle.cpe_rows.specs.Rows.{is_named}
use Rattle.cpe_rows.specs.After.{changed}
use Rattle.cpe_rows.specs.Chains.{leads_to}
use Rattle.cpe_rows.specs.Faults.{place_of, repeated_from}
use Rattle.cpe_rows.specs.Limits.{is_wide}
use Rattle.cpe_rows.specs.declared.limits.TheConstants.{MOST_SUCCESSORS}
use Rattle.cpe_rows.specs.Lawful.{are_different, has_count}
use Rattle.cpe_rows.specs.declared.entry.Entry.{Entry}
use Rattle.deprecation_graph.specs.Graph.{edge_count}
use Rattle.deprecation_graph.specs.Faults.{cycle_in, wide_in}
use Rattle.cpe_dictionary.specs.Numbers.{numbers_of, nodes_of_entries}

-- no two entries have the same name
abbrev pub AreDifferent : List Entry → Type 0
AreDifferent entries = are_different (λ e. is_named e.name) entries ≡ true

-- each name is that of an entry
abbrev pub AreEntries : List Entry → List Values → Type 0
AreEntries entries ns = list_all (λ n. list_any (is_named n) entries) ns ≡ true

-- a change of the entry of a name replaces the entry at the name's place
abbrev pub WritesByNumber : Type 0
WritesByNumber =
    (entries : List Entry) (f : Entry → Entry) (n : Values) (k : ℕ) (e : Entry) → position (is_named n) entries ≡ Some k → slice_get entries k ≡ Some e
    → changed f n entries ≡ slice_set entries k (f e)

-- each name has a number, and each number is that of an entry
pub record HaveNumbers (entries : List Entry) (ns : List Values) : Type 0 where
  pub each : length (numbers_of entries ns) ≡ length ns
  pub within : (k : ℕ) → Contains (numbers_of entries ns) k → k < length entries

abbrev pub NamesHaveNumbers : Type 0
NamesHaveNumbers = (entries : List Entry) (ns : List Values) → AreEntries entries ns → HaveNumbers entries ns

-- the first repeated name is at the place of the first repeated number
abbrev pub RepeatsByNumber : Type 0
RepeatsByNumber =
    (entries : List Entry) (ns : List Values) → AreEntries entries ns
    → repeated_from is_same [] 1 ns ≡ repeated_from nat_eq [] 1 (numbers_of entries ns)

abbrev pub DifferentByNumber : Type 0
DifferentByNumber = (ks : List ℕ) → repeated_from nat_eq [] 1 ks ≡ None → IsDistinct nat_eq ks

-- the first successor that leads to the entry is at the place of the first number that leads to the entry's number
abbrev pub CyclesByNumber : Type 0
CyclesByNumber =
    (entries : List Entry) (k : ℕ) (e : Entry) (ns : List Values) → AreDifferent entries → slice_get entries k ≡ Some e → AreEntries entries ns
    → place_of (λ s. leads_to entries s e.name) ns ≡ cycle_in (nodes_of_entries entries) k (numbers_of entries ns)

-- the first entry with too many ends has the number of the least node with too many ends
abbrev pub WidthByNumber : Type 0
WidthByNumber = (entries : List Entry) → AreDifferent entries → find (is_wide entries) entries ≡ option_and_then (slice_get entries) (wide_in (nodes_of_entries entries))

-- if no deprecation has too many successors, there are at most `MOST_SUCCESSORS` edges for each entry
abbrev pub EdgesAreFew : Type 0
EdgesAreFew = (entries : List Entry) → list_all has_count entries ≡ true → edge_count (nodes_of_entries entries) ≤ MOST_SUCCESSORS * length entries
