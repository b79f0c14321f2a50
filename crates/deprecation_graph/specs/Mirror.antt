-- Edges stored in both directions. Used only inside the crate.
use Rattle.std.specs.Prelude.{◌≡◌, ◌≢◌, ℕ, ◌+◌, ◌==◌, cond, List, [], ◌∷◌, length}
use Rattle.deprecation_graph.specs.Indexed.{list_of_node}

-- the number of occurrences of a number in a list
abbrev pub node_times : ℕ → List ℕ → ℕ
node_times v [] = 0
node_times v (x ∷ xs) = cond (x == v) (node_times v xs + 1) (node_times v xs)

-- a is as often in the `before` list of b as b is in the `next` list of a
abbrev pub IsMirror : List (List ℕ) → List (List ℕ) → Type 0
IsMirror next before = (a b : ℕ) → node_times a (list_of_node before b) ≡ node_times b (list_of_node next a)

-- one list loses one occurrence of a number and may be reordered; the other lists are unchanged
pub record Loses (old new : List (List ℕ)) (i value : ℕ) : Type 0 where
  pub count : length new ≡ length old
  pub others : (j : ℕ) → j ≢ i → list_of_node new j ≡ list_of_node old j
  pub less : (v : ℕ) → node_times v (list_of_node new i) + cond (value == v) 1 0 ≡ node_times v (list_of_node old i)
