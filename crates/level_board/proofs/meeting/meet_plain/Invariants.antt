use Rattle.std.proofs.Common.{◌≡◌, ◌+◌, ◌++◌, ◌≤◌, length}
use Rattle.std.specs.List.{AllByRecursion, filter}
use Rattle.name_index.specs.declared.table.NameId.{NameId}
use Rattle.name_index.specs.Table.{IsLive}
use Rattle.name_index.specs.Index.{is_covered}
use Rattle.level_board.specs.Targets.{is_maybe_target}
use Rattle.level_board.proofs.meeting.meet_plain.Given as goal

abbrev pub invariant-loop-target : goal.invariant-loop-target
invariant-loop-target g l = record { live : AllByRecursion (λ (id : NameId). IsLive l.table id.0) l.target-iterator; later : l.fn.steps ≤ l.steps; looked : l.steps + length l.target-iterator ≡ l.fn.steps + length l.initial.target-iterator; covered : l.covered.items ++ filter (is_covered l.table l.name) l.target-iterator ≡ filter (is_covered l.table l.name) l.initial.target-iterator; maybe : l.maybes.items ++ filter (is_maybe_target l.table l.name) l.target-iterator ≡ filter (is_maybe_target l.table l.name) l.initial.target-iterator }
