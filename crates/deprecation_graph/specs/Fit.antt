-- The tests of the given lists before any edge is added. Used only inside the crate.
use Rattle.std.specs.Prelude.{◌<◌, ◌≤◌, ℕ, List, Option, length}
use Rattle.std.specs.List.{All}
use Rattle.deprecation_graph.specs.declared.limits.TheConstants.{MOST_NODES}
use Rattle.deprecation_graph.specs.Graph.{successors}
use Rattle.deprecation_graph.specs.Filled.{IsBrief}

-- at most `MOST_SUCCESSORS` successors, all different and below the count
pub record IsFit (count : ℕ) (list : Option (List ℕ)) : Type 0 where
  pub brief : IsBrief list
  pub below : All (λ node. node < count) (successors list)

-- there are at most `MOST_NODES` nodes, and each list has at most `MOST_SUCCESSORS` successors, all different nodes;
-- cycles and ends aren't tested
pub record AreFit (lists : List (Option (List ℕ))) : Type 0 where
  pub few : length lists ≤ MOST_NODES
  pub each : All (IsFit (length lists)) lists
