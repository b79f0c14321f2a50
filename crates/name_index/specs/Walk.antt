-- The products that a walk has left: those whose bodies are prefixes or suffixes of a text.
use Rattle.std.specs.Prelude.{ℕ, zero, suc, ◌+◌, ◌-◌, ◌≤◌, true, List, [], ◌++◌, length, take, drop}
use Rattle.std.specs.List.{filter}
use Rattle.name_index.specs.declared.keys.End.TheVariants as end
use Rattle.name_index.specs.declared.keys.Shape.{Shape}
use Rattle.name_index.specs.declared.keys.Shape.TheVariants as shape
use Rattle.name_index.specs.Keys.{in_run, Rises}
use Rattle.name_index.specs.Listed.{ProductList, product_value_at}

-- the numbers of the products of a shape whose body equals one of the first pieces; the last of these pieces is first
abbrev pub shape_runs : ProductList → List ℕ → Shape → (ℕ → List ℕ) → ℕ → List ℕ
shape_runs values order s piece zero = []
shape_runs values order s piece (suc k) = filter (λ n. in_run end.Front s (piece k) true (product_value_at values n)) order ++ shape_runs values order s piece k

-- the products with only a trail whose body is a prefix, and then the products with only a lead whose body is a suffix
abbrev pub all_runs : ProductList → List ℕ → List ℕ → ℕ → ℕ → List ℕ
all_runs values order text fronts ends = shape_runs values order shape.WithTrail (λ k. take k text) fronts ++ shape_runs values order shape.WithLead (λ k. drop (length text - k) text) ends

pub record IsWalkIn (values : ProductList) (order : List ℕ) (text : List ℕ) (fronts ends : ℕ) : Type 0 where
  pub rises : Rises end.Front values order
  pub few_fronts : fronts ≤ length text + 1
  pub few_ends : ends ≤ length text + 1
