-- The chain and the ends of an entry, by the nodes of the entries.
use Rattle.std.specs.Prelude.{◌≡◌, ℕ, List, map, filter, Some, slice_get}
use Rattle.cpe_rows.specs.Chains.{is_active, chain, ends}
use Rattle.cpe_rows.specs.declared.entry.Entry.{Entry}
use Rattle.deprecation_graph.specs.Graph.{chain_in}
use Rattle.cpe_dictionary.specs.Numbers.{entries_at, nodes_of_entries}
use Rattle.cpe_dictionary.specs.Faults.{AreDifferent}

-- the chain of an entry has the entries in the chain of its node
abbrev pub ChainsOfNodes : Type 0
ChainsOfNodes =
    (entries : List Entry) (k : ℕ) (e : Entry) → AreDifferent entries → slice_get entries k ≡ Some e
    → chain entries e.name ≡ entries_at entries (chain_in (nodes_of_entries entries) k)

-- the ends of an entry are the names of the active entries in the chain of its node
abbrev pub EndsOfNodes : Type 0
EndsOfNodes =
    (entries : List Entry) (k : ℕ) (e : Entry) → AreDifferent entries → slice_get entries k ≡ Some e
    → ends entries e.name ≡ map (λ x. x.name) (filter is_active (entries_at entries (chain_in (nodes_of_entries entries) k)))
