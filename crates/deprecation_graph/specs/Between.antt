-- The states of a graph while it is filled: a node gets its successors after all of them have theirs. Used only inside
-- the crate.
use Rattle.std.specs.Prelude.{◌≡◌, ℕ, Bool, true, false, List, [], length, slice_get}
use Rattle.deprecation_graph.specs.Paths.{HasEdge}
use Rattle.deprecation_graph.specs.Graph.{Node, next_of_node}

-- a node that is done has its last state, and its successors are done; any other node has no successors yet
pub record IsBetween (nodes now : List Node) (is_done : ℕ → Bool) : Type 0 where
  pub count : length now ≡ length nodes
  pub done : (a : ℕ) → is_done a ≡ true → slice_get now a ≡ slice_get nodes a
  pub bare : (a : ℕ) → is_done a ≡ false → next_of_node now a ≡ []
  pub first : (a b : ℕ) → is_done a ≡ true → HasEdge (next_of_node nodes) a b → is_done b ≡ true
