-- How lists are stored in a pool. Used only inside the crate.
use Rattle.std.specs.Prelude.{◌≡◌, ℕ, List, map, Option, slice_get, Some}
use Rattle.list_pool.specs.Pool.{Row, list_at, IsLiveList, pool_size}
use Rattle.list_pool.specs.declared.ListName.{ListName}
use Rattle.deprecation_graph.specs.Indexed.{size_of}

-- the numbers in a list of the pool
abbrev pub heads_values : List (Option (List Row)) → ℕ → List ℕ
heads_values lists name = map (λ (x : Row). x.1) (list_at lists name)

abbrev pub lists_at : List (Option (List Row)) → List ListName → List (List ℕ)
lists_at lists heads = map (λ (h : ListName). heads_values lists h.0) heads

-- the heads belong to different live lists, and the pool has no other lists
pub record AreHeads (lists : List (Option (List Row))) (heads : List ListName) : Type 0 where
  pub live : (i : ℕ) (h : ListName) → slice_get heads i ≡ Some h → IsLiveList lists h.0
  pub apart : (i j : ℕ) (h k : ListName) → slice_get heads i ≡ Some h → slice_get heads j ≡ Some k → h.0 ≡ k.0 → i ≡ j
  pub size : pool_size lists ≡ size_of (lists_at lists heads)
