use Rattle.std.proofs.Common.{◌≡◌, ◌-◌, ◌≤◌, length, take}
use Rattle.std.specs.Option.{option_map}
use Rattle.list_pool.specs.Pool.{list_at, cell_at}
use Rattle.deprecation_graph.specs.Heads.{heads_values}
use Rattle.deprecation_graph.proofs.lists.read_list.Given as goal

abbrev pub invariant-loop-next : goal.invariant-loop-next
invariant-loop-next l = record {
  at : option_map (λ c. c.0) l.next ≡ cell_at l.pool.lists l.fn.head.0 (length l.into.items);
  few : length l.into.items ≤ length (list_at l.pool.lists l.fn.head.0);
  prefix : l.into.items ≡ take (length l.into.items) (heads_values l.pool.lists l.fn.head.0);
}

abbrev pub decreases-loop-next : goal.decreases-loop-next
decreases-loop-next l = length (list_at l.pool.lists l.fn.head.0) - length l.into.items
