-- Lemmas: the chain and the ends of an entry, by the nodes of the entries.
use Rattle.std.proofs.Common.{ℕ, map, length, sym, ap, ◌∙◌}
use Rattle.std.proofs.lemmas.List.{length-map}
use Rattle.cpe_rows.specs.declared.entry.Entry.{Entry}
use Rattle.deprecation_graph.specs.Graph.{next_of_node, active_in}
use Rattle.deprecation_graph.specs.Chains.{chain_of, ends_of_node}
use Rattle.cpe_dictionary.specs.Numbers.{ChainsByNumber, EndsByNumber, NodesAreNumbered, NodesAreMarked, entries_at, node_of_entry, nodes_of_entries}
use Rattle.cpe_dictionary.specs.Answers.{ChainsOfNodes, EndsOfNodes}
use Rattle.cpe_dictionary.proofs.Numbering.{filter_entries_at}

pub chains_law : ChainsByNumber → NodesAreNumbered → ChainsOfNodes
chains_law chains numbered entries k e different at =
    let nodes = nodes_of_entries entries in
    chains entries (next_of_node nodes) k e (numbered entries different) at
    ∙ ap (λ (c : ℕ). entries_at entries (chain_of (next_of_node nodes) c k)) (sym (length-map entries (node_of_entry entries)))

pub ends_law : EndsByNumber → NodesAreNumbered → NodesAreMarked → EndsOfNodes
ends_law ends numbered marked entries k e different at =
    let nodes = nodes_of_entries entries in
    ends entries (next_of_node nodes) (active_in nodes) k e (numbered entries different) (marked entries) at
    ∙ ap (λ (c : ℕ). map (λ (x : Entry). x.name) (entries_at entries (ends_of_node (next_of_node nodes) (active_in nodes) c k))) (sym (length-map entries (node_of_entry entries)))
    ∙ sym (ap (map (λ (x : Entry). x.name)) (filter_entries_at entries (active_in nodes) (chain_of (next_of_node nodes) (length nodes) k) (marked entries)))
