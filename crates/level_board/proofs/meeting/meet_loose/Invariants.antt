use Rattle.std.proofs.Common.{◌≡◌, ◌+◌, ◌++◌, drop}
use Rattle.std.specs.List.{AllByRecursion, filter}
use Rattle.name_index.specs.Table.{IsLive}
use Rattle.name_index.specs.Index.{ids}
use Rattle.level_board.specs.declared.target_parts.Loose.{Loose}
use Rattle.level_board.specs.Targets.{is_maybe_target}
use Rattle.level_board.specs.TargetParts.{pairs_of}
use Rattle.level_board.proofs.meeting.meet_loose.Given as goal

abbrev pub invariant-loop-one : goal.invariant-loop-one
invariant-loop-one g l = record {
  live : AllByRecursion (λ (x : Loose). IsLive l.table x.id) (drop l.one-index l.loose);
  looked : l.steps ≡ l.fn.steps + l.one-index;
  found : l.maybes.items ++ filter (is_maybe_target l.table l.name) (ids (pairs_of (drop l.one-index l.loose))) ≡ l.fn.maybes.items ++ filter (is_maybe_target l.table l.name) (ids (pairs_of l.loose));
}
