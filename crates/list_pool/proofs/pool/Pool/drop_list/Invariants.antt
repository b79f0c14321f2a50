use Rattle.std.proofs.Common.{◌≡◌, ◌≢◌, ℕ, ◌+◌, length}
use Rattle.list_pool.specs.Pool.{IsLiveList, find_list, list_at}
use Rattle.list_pool.proofs.pool.Pool.drop_list.Given as goal

abbrev pub invariant-loop-cell : goal.invariant-loop-cell
invariant-loop-cell l = record {
  live : IsLiveList l.self.lists l.list.0;
  others : (other : ℕ) → other ≢ l.list.0 → find_list l.self.lists other ≡ find_list l.fn.self.lists other;
  spare : l.self.spare + length (list_at l.self.lists l.list.0) ≡ l.fn.self.spare + length (list_at l.fn.self.lists l.list.0);
}

abbrev pub decreases-loop-cell : goal.decreases-loop-cell
decreases-loop-cell l = length (list_at l.self.lists l.list.0)
