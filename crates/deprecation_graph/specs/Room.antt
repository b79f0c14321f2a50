-- What it means to make room in a graph.
use Rattle.std.specs.Prelude.{◌≡◌, ℕ, ◌≤◌, Result, OnOk, OnErr}
use Rattle.deprecation_graph.specs.Graph.{Graph}

-- Room was made for this number of further nodes and edges, or memory ran out.
pub record MakesGraphRoom {Done Fault : Type 0} (old new : Graph) (more_nodes more_edges : ℕ) (result : Result Done Fault) : Type 0 where
  -- the nodes are unchanged
  pub nodes : new.nodes ≡ old.nodes
  -- there is room for the nodes
  pub room_nodes : OnOk result (more_nodes ≤ new.room_nodes)
  -- there is room for the edges
  pub room_edges : OnOk result (more_edges ≤ new.room_edges)
  -- no room for nodes is lost
  pub nodes_kept : old.room_nodes ≤ new.room_nodes
  -- no room for edges is lost
  pub edges_kept : old.room_edges ≤ new.room_edges
  -- if memory runs out, the graph is unchanged
  pub err : OnErr result (new ≡ old)
