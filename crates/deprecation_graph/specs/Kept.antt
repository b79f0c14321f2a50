-- The stored graph, and what is true of it. Used only inside the crate.
use Rattle.deprecation_graph.specs.declared.limits.TheConstants.{MOST_NODES, MOST_EDGES}
use Rattle.std.specs.Prelude.{◌≡◌, ◌⊎◌, ℕ, ◌+◌, ◌≤◌, Bool, true, false, is_none, vec_capacity, List, [], ◌∷◌, length, slice_index_or, slice_set, Option, Some, None}
use Rattle.std.specs.List.{list_all}
use Rattle.std.specs.Option.{option_copied}
use Rattle.deprecation_graph.specs.Graph.{Node, successors, changed_nodes, edge_count, IsLawfulGraph}
use Rattle.deprecation_graph.specs.Mirror.{IsMirror}
use Rattle.deprecation_graph.specs.Groups.{AreGroups}
use Rattle.deprecation_graph.specs.declared.kept.KeptGraph.{KeptGraph}
use Rattle.deprecation_graph.specs.declared.kept.NodeChange.{NodeChange}

-- the nodes, made from the marks of active nodes and the lists of successors
abbrev pub nodes_of : List Bool → List (List ℕ) → List Node
nodes_of [] lists = []
nodes_of (a ∷ marks) [] = []
nodes_of (a ∷ marks) (xs ∷ lists) = record { active = a; next = xs } ∷ nodes_of marks lists

abbrev pub nodes_in : KeptGraph → List Node
nodes_in kept = nodes_of kept.active.items kept.next.lists

-- the nodes; after the change, if one is given
abbrev pub nodes_after : KeptGraph → Option NodeChange → List Node
nodes_after kept None = nodes_in kept
nodes_after kept (Some c) = changed_nodes (nodes_in kept) c.node (option_copied c.next)

abbrev pub lists_after : List (List ℕ) → Option NodeChange → List (List ℕ)
lists_after lists None = lists
lists_after lists (Some c) = slice_set lists c.node (successors (option_copied c.next))

-- the marks of active nodes; after the change, if one is given
abbrev pub marks_after : List Bool → Option NodeChange → List Bool
marks_after marks None = marks
marks_after marks (Some c) = slice_set marks c.node (is_none (option_copied c.next))

-- there is at most one node, or all nodes are active
abbrev pub AreFewSuccessors : List Bool → List ℕ → Type 0
AreFewSuccessors marks nodes = (length nodes ≤ 1) ⊎ (list_all (λ node. slice_index_or marks node false) nodes ≡ true)

-- a sound graph: a list for each node in both directions, groups that no edge leaves, and lawful nodes
pub record IsGraph (kept : KeptGraph) : Type 0 where
  pub next : length kept.next.lists ≡ length kept.active.items
  pub before : length kept.before.lists ≡ length kept.active.items
  pub mirror : IsMirror kept.next.lists kept.before.lists
  pub groups : AreGroups kept.groups.items kept.active.items kept.next.lists
  pub lawful : IsLawfulGraph (nodes_in kept)

-- what every stored graph satisfies: it is sound, has the room that it promises, and keeps the limits
pub record IsStored (kept : KeptGraph) (room_nodes room_edges : ℕ) : Type 0 where
  pub sound : IsGraph kept
  pub marks : length kept.active.items + room_nodes ≤ vec_capacity kept.active
  pub group_room : length kept.groups.items + room_nodes ≤ vec_capacity kept.groups
  pub next_room : room_nodes ≤ kept.next.room
  pub before_room : room_nodes ≤ kept.before.room
  pub next_spare : room_nodes + room_edges ≤ kept.next.spare
  pub before_spare : room_nodes + room_edges ≤ kept.before.spare
  pub few_nodes : length kept.active.items + room_nodes ≤ MOST_NODES
  pub few_edges : edge_count (nodes_in kept) + room_edges ≤ MOST_EDGES

-- the nodes and the groups are unchanged, and no room is lost
pub record Regrows (old new : KeptGraph) : Type 0 where
  pub marks : new.active.items ≡ old.active.items
  pub next : new.next.lists ≡ old.next.lists
  pub before : new.before.lists ≡ old.before.lists
  pub groups : new.groups.items ≡ old.groups.items
  pub capacity : vec_capacity old.active ≤ vec_capacity new.active
  pub group_capacity : vec_capacity old.groups ≤ vec_capacity new.groups
  pub next_room : old.next.room ≤ new.next.room
  pub before_room : old.before.room ≤ new.before.room
  pub next_spare : old.next.spare ≤ new.next.spare
  pub before_spare : old.before.spare ≤ new.before.spare

pub record HasRoom (kept : KeptGraph) (nodes edges : ℕ) : Type 0 where
  pub capacity : length kept.active.items + nodes ≤ vec_capacity kept.active
  pub group_capacity : length kept.groups.items + nodes ≤ vec_capacity kept.groups
  pub next_room : nodes ≤ kept.next.room
  pub before_room : nodes ≤ kept.before.room
  pub next_spare : nodes + edges ≤ kept.next.spare
  pub before_spare : nodes + edges ≤ kept.before.spare

-- how a change of one node's list changes the room: a slot less for each new successor, and a slot more for each old
-- successor
pub record KeepsGraphRoom (old new : KeptGraph) (taken given : List ℕ) : Type 0 where
  pub count : length new.active.items ≡ length old.active.items
  pub capacity : vec_capacity new.active ≡ vec_capacity old.active
  pub group_capacity : vec_capacity new.groups ≡ vec_capacity old.groups
  pub next_room : new.next.room ≡ old.next.room
  pub before_room : new.before.room ≡ old.before.room
  pub next_spare : new.next.spare + length taken ≡ old.next.spare + length given
  pub before_spare : new.before.spare + length taken ≡ old.before.spare + length given
