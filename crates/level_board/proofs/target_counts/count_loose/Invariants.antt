use Rattle.std.proofs.Common.{◌≡◌, ◌+◌, ◌≤◌, drop}
use Rattle.std.specs.List.{AllByRecursion}
use Rattle.name_index.specs.Table.{IsLive}
use Rattle.level_board.specs.declared.target_parts.Loose.{Loose}
use Rattle.level_board.specs.Targets.{maybe_pairs}
use Rattle.level_board.specs.TargetParts.{pairs_of}
use Rattle.level_board.proofs.target_counts.count_loose.Given as goal

abbrev pub invariant-loop-one : goal.invariant-loop-one
invariant-loop-one g l = record {
  live : AllByRecursion (λ (x : Loose). IsLive l.table x.id) (drop l.one-index l.loose);
  looked : l.steps ≡ l.fn.steps + l.one-index;
  counted : l.maybes + maybe_pairs l.table l.name (pairs_of (drop l.one-index l.loose)) ≡ maybe_pairs l.table l.name (pairs_of l.loose);
  few : l.maybes ≤ l.one-index;
}
