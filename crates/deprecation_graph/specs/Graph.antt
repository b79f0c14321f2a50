-- A `DeprecationGraph` as contracts see it.
use Rattle.std.specs.Prelude.{◌≡◌, ℕ, ◌<◌, ◌≤◌, Bool, true, false, IsTrue, List, [], length, slice_get, slice_set, nat_eq, Option, Some, None}
use Rattle.std.specs.List.{Contains, IsDistinct, sum_by}
use Rattle.deprecation_graph.specs.declared.limits.TheConstants.{MOST_ENDS, MOST_SUCCESSORS, MOST_NODES}
use Rattle.deprecation_graph.specs.Paths.{IsAcyclic, IsClosed}
use Rattle.deprecation_graph.specs.Chains.{chain_of, ends_of_node, sources_of}

-- a node: whether it is active, and its list of successors
pub record Node : Type 0 where
  pub active : Bool
  pub next : List ℕ

-- the nodes by their numbers, and the room for further nodes and edges
pub record Graph : Type 0 where
  pub nodes : List Node
  pub room_nodes : ℕ
  pub room_edges : ℕ

abbrev pub next_or_none : Option Node → List ℕ
next_or_none None = []
next_or_none (Some node) = node.next

abbrev pub active_or_not : Option Node → Bool
active_or_not None = false
active_or_not (Some node) = node.active

-- the successors of a number; the empty list past the last node
abbrev pub next_of_node : List Node → ℕ → List ℕ
next_of_node nodes a = next_or_none (slice_get nodes a)

-- whether a number is an active node
abbrev pub active_in : List Node → ℕ → Bool
active_in nodes a = active_or_not (slice_get nodes a)

abbrev pub chain_in : List Node → ℕ → List ℕ
chain_in nodes a = chain_of (next_of_node nodes) (length nodes) a

abbrev pub ends_in : List Node → ℕ → List ℕ
ends_in nodes a = ends_of_node (next_of_node nodes) (active_in nodes) (length nodes) a

abbrev pub sources_in : List Node → ℕ → List ℕ
sources_in nodes b = sources_of (next_of_node nodes) (length nodes) b

-- the number of edges
abbrev pub edge_count : List Node → ℕ
edge_count nodes = sum_by (λ node. length node.next) nodes

-- ---- a change of one node

-- the successors that a change gives; `None` makes the node active
abbrev pub successors : Option (List ℕ) → List ℕ
successors None = []
successors (Some next) = next

-- the node after a change of it
abbrev pub node_of : Option (List ℕ) → Node
node_of None = record { active = true; next = [] }
node_of (Some next) = record { active = false; next = next }

-- the nodes after a change of node a
abbrev pub changed_nodes : List Node → ℕ → Option (List ℕ) → List Node
changed_nodes nodes a to = slice_set nodes a (node_of to)

-- the changed number and its new successors are nodes
pub record NamesNodes (nodes : List Node) (a : ℕ) (to : Option (List ℕ)) : Type 0 where
  pub node : a < length nodes
  pub next : (b : ℕ) → Contains (successors to) b → b < length nodes

-- a change names nodes, and gives at most `MOST_SUCCESSORS` successors, all different
pub record IsChange (nodes : List Node) (a : ℕ) (to : Option (List ℕ)) : Type 0 where
  pub names : NamesNodes nodes a to
  pub few : length (successors to) ≤ MOST_SUCCESSORS
  pub different : IsDistinct nat_eq (successors to)

-- ---- what every graph satisfies

pub record IsLawfulGraph (nodes : List Node) : Type 0 where
  pub few : length nodes ≤ MOST_NODES
  pub closed : IsClosed (next_of_node nodes) (length nodes)
  pub bare : (a : ℕ) → IsTrue (active_in nodes a) → next_of_node nodes a ≡ []
  pub acyclic : IsAcyclic (next_of_node nodes)
  pub narrow : (a : ℕ) → a < length nodes → length (ends_in nodes a) ≤ MOST_ENDS
