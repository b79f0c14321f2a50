-- An edit of an entry's deprecation is a change of the entry's node.
use Rattle.std.specs.Prelude.{◌≡◌, ℕ, List, [], true, not, length, Option, Some, None, option_map, option_and_then, slice_get, slice_set}
use Rattle.std.specs.List.{list_any}
use Rattle.cpe_rows.specs.cpe_name.Eleven.{Values}
use Rattle.cpe_rows.specs.Names.{is_same}
use Rattle.cpe_rows.specs.Rows.{Rows, is_named}
use Rattle.cpe_rows.specs.Faults.{place_of, repeated_from, is_count, too_wide}
use Rattle.cpe_rows.specs.declared.entry.Entry.{Entry}
use Rattle.cpe_rows.specs.declared.entry.Deprecation.{Deprecation}
use Rattle.cpe_rows.specs.declared.fault.EditFault.TheVariants as fault
use Rattle.deprecation_graph.specs.Graph.{IsChange, changed_nodes, node_of}
use Rattle.deprecation_graph.specs.Faults.{wide_in}
use Rattle.cpe_dictionary.specs.Numbers.{numbers_of, node_of_entry, nodes_of_entries}
use Rattle.cpe_dictionary.specs.Faults.{AreDifferent, AreEntries}

-- if no name is unknown, each name is that of an entry
abbrev pub KnownAreEntries : Type 0
KnownAreEntries = (entries : List Entry) (ns : List Values) → place_of (λ n. not (list_any (is_named n) entries)) ns ≡ None → AreEntries entries ns

-- if the successors are entries, as many as the kind allows, and none is repeated, the graph can check the change
abbrev pub EditsAreChanges : Type 0
EditsAreChanges =
    (entries : List Entry) (k : ℕ) (e : Entry) (d : Deprecation) → slice_get entries k ≡ Some e
    → is_count d.kind (length d.successors) ≡ true → AreEntries entries d.successors → repeated_from is_same [] 1 d.successors ≡ None
    → IsChange (nodes_of_entries entries) k (Some (numbers_of entries d.successors))

-- names stay different if an entry is replaced by one of the same name
abbrev pub NamesStayDifferent : Type 0
NamesStayDifferent =
    (entries : List Entry) (k : ℕ) (e x : Entry) → slice_get entries k ≡ Some e → x.name ≡ e.name → AreDifferent entries
    → AreDifferent (slice_set entries k x)

-- the first entry with too many ends after an edit, by the nodes before the edit
abbrev pub WidthAfterByNumber : Type 0
WidthAfterByNumber =
    (rows : Rows) (k : ℕ) (e x : Entry) (to : Option (List ℕ)) → AreDifferent rows.entries → slice_get rows.entries k ≡ Some e
    → x.name ≡ e.name → node_of_entry rows.entries x ≡ node_of to
    → too_wide (record rows { entries = slice_set rows.entries k x })
    ≡ option_map (λ y. fault.TooWide y.name) (option_and_then (slice_get rows.entries) (wide_in (changed_nodes (nodes_of_entries rows.entries) k to)))
