-- The graph of given nodes, and whether it is allowed, as contracts see it.
use Rattle.std.specs.Prelude.{◌≤◌, ℕ, List, Option, length, map, nat_eq}
use Rattle.std.specs.List.{All, IsDistinct}
use Rattle.deprecation_graph.specs.declared.limits.TheConstants.{MOST_SUCCESSORS}
use Rattle.deprecation_graph.specs.Graph.{Node, node_of, successors, IsLawfulGraph}

-- node k is active if list k is `None`, and otherwise has the successors in list k
abbrev pub nodes_of_lists : List (Option (List ℕ)) → List Node
nodes_of_lists lists = map node_of lists

-- at most `MOST_SUCCESSORS` successors, all different
pub record IsBrief (list : Option (List ℕ)) : Type 0 where
  pub few : length (successors list) ≤ MOST_SUCCESSORS
  pub different : IsDistinct nat_eq (successors list)

-- a graph may have these nodes, and each node can get its successors by one change
pub record AreAllowed (lists : List (Option (List ℕ))) : Type 0 where
  pub lawful : IsLawfulGraph (nodes_of_lists lists)
  pub brief : All IsBrief lists
