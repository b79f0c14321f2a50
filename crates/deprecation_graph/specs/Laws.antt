-- Statements of the crate's laws.
use Rattle.std.specs.Prelude.{◌≡◌, ◌↔◌, ℕ, ◌<◌, ◌++◌, ◌∷◌, [], Bool, List, length, IsTrue, Option, None}
use Rattle.std.specs.List.{Contains}
use Rattle.deprecation_graph.specs.Paths.{Leads, IsClosed}
use Rattle.deprecation_graph.specs.Chains.{reaches, chain_of, ends_of_node, sources_of, IsChain, AreEnds, AreSources}
use Rattle.deprecation_graph.specs.Graph.{Node, chain_in, ends_in, sources_in, node_of, changed_nodes, NamesNodes, IsLawfulGraph}

-- over closed numbers, the computed definitions agree with paths
pub record ArePaths (next : ℕ → List ℕ) (active : ℕ → Bool) (count a : ℕ) : Type 0 where
  pub reached : (b : ℕ) → IsTrue (reaches next count a b) ↔ Leads next a b
  pub chain : IsChain next a (chain_of next count a)
  pub ends : AreEnds next active a (ends_of_node next active count a)
  pub sources : AreSources next count a (sources_of next count a)

abbrev pub ChainsArePaths : Type 0
ChainsArePaths = (next : ℕ → List ℕ) (active : ℕ → Bool) (count a : ℕ) → IsClosed next count → a < count → ArePaths next active count a

-- a number keeps its chain and its ends
pub record IsUntouched (old new : List Node) (a : ℕ) : Type 0 where
  pub chain : chain_in new a ≡ chain_in old a
  pub ends : ends_in new a ≡ ends_in old a

-- a change affects only the sources of the changed node
abbrev pub ChangesAreLocal : Type 0
ChangesAreLocal =
    (nodes : List Node) (a : ℕ) (to : Option (List ℕ)) → IsLawfulGraph nodes → NamesNodes nodes a to
    → (b : ℕ) → b < length nodes → (Contains (sources_in nodes a) b → ⊥) → IsUntouched nodes (changed_nodes nodes a to) b

-- the changed node keeps its sources
abbrev pub SourcesStay : Type 0
SourcesStay =
    (nodes : List Node) (a : ℕ) (to : Option (List ℕ)) → IsLawfulGraph nodes → NamesNodes nodes a to
    → sources_in (changed_nodes nodes a to) a ≡ sources_in nodes a

-- the addition of a node changes no other node
abbrev pub AdditionsAreLocal : Type 0
AdditionsAreLocal = (nodes : List Node) → IsLawfulGraph nodes → (a : ℕ) → a < length nodes → IsUntouched nodes (nodes ++ node_of None ∷ []) a

abbrev pub AdditionsAreAlone : Type 0
AdditionsAreAlone =
    (nodes : List Node) → IsLawfulGraph nodes
    → (chain_in (nodes ++ node_of None ∷ []) (length nodes) ≡ length nodes ∷ []) × (ends_in (nodes ++ node_of None ∷ []) (length nodes) ≡ length nodes ∷ [])
