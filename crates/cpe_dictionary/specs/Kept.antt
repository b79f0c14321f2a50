-- A dictionary as it is stored: the names of its entries, the other parts of the entries, and a graph of the
-- deprecations.
use Rattle.std.specs.Prelude.{◌≡◌, ◌≤◌, ℕ, List, length, map}
use Rattle.cpe_rows.specs.cpe_name.Eleven.{Values}
use Rattle.cpe_rows.specs.Rows.{Rows, no_rows}
use Rattle.cpe_rows.specs.Lawful.{IsDictionary}
use Rattle.cpe_rows.specs.Limits.{most}
use Rattle.cpe_rows.specs.declared.entry.Entry.{Entry}
use Rattle.cpe_rows.specs.declared.fault.Which.TheVariants as limit
use Rattle.deprecation_graph.specs.Graph.{Node}
use Rattle.cpe_dictionary.specs.declared.kept.EntryDetails.{EntryDetails}
use Rattle.cpe_dictionary.specs.Numbers.{entries_at, nodes_of_entries}
use Rattle.name_index.specs.Table.{Names}
use Rattle.cpe_dictionary.specs.names_in_order.InOrder.{AreInOrder, Roll, names_numbered}
pub use Rattle.cpe_dictionary.specs.Listed.{entries_of, names_of_entries, new_entry, rewritten, written}

-- the entries are a lawful dictionary, and node k is entry k
pub record IsDictionaryGraph (entries : List Entry) (nodes : List Node) : Type 0 where
  pub lawful : IsDictionary entries
  pub few : length entries ≤ most limit.Entries
  pub numbered : nodes ≡ nodes_of_entries entries

-- the reserved room beside the room for names: for the other parts of entries, for nodes and for edges
pub record StoredRoom : Type 0 where
  pub details : ℕ
  pub nodes : ℕ
  pub edges : ℕ

-- a stored dictionary: the numbers of its entries' names, the other parts of the entries, the nodes of its graph, and
-- the reserved room
pub record Stored : Type 0 where
  pub names : Roll
  pub details : List EntryDetails
  pub nodes : List Node
  pub room : StoredRoom

-- the entries, with the names that the table has for their numbers
abbrev pub entries_in : Names → Stored → List Entry
entries_in table s = entries_of (names_numbered table s.names.numbers) s.details

-- the dictionary fits the table: its numbers are those of names in the table, and each number has an entry
pub record FitsTable (table : Names) (s : Stored) : Type 0 where
  pub order : AreInOrder table s.names.held s.names.numbers
  pub even : length s.names.numbers ≡ length s.details
  pub kept : IsDictionaryGraph (entries_in table s) s.nodes

-- the rows with these entries instead of their own
abbrev pub with_entries : Rows → List Entry → Rows
with_entries rows es = record rows { entries = es }

-- rows that have only these entries
abbrev pub rows_of_entries : List Entry → Rows
rows_of_entries es = with_entries no_rows es

-- the names of the entries of these numbers
abbrev pub entry_names_at : List Entry → List ℕ → List Values
entry_names_at es ks = map (λ e. e.name) (entries_at es ks)
