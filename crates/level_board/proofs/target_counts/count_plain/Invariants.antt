use Rattle.std.proofs.Common.{◌≡◌, ◌+◌, ◌<◌, ◌&&◌, length, count_by}
use Rattle.std.specs.List.{AllByRecursion}
use Rattle.name_index.specs.declared.table.NameId.{NameId}
use Rattle.name_index.specs.Table.{IsLive}
use Rattle.name_index.specs.Index.{is_covered}
use Rattle.level_board.specs.Targets.{is_maybe_target}
use Rattle.level_board.proofs.target_counts.count_plain.Given as goal

abbrev pub invariant-loop-target : goal.invariant-loop-target
invariant-loop-target g l = record {
  live : AllByRecursion (λ (id : NameId). IsLive l.table id.0) l.target-iterator;
  looked : l.steps + length l.target-iterator ≡ l.fn.steps + length l.initial.target-iterator;
  covered : l.covered + count_by (is_covered l.table l.name) l.target-iterator ≡ count_by (is_covered l.table l.name) l.initial.target-iterator;
  maybes : l.maybes + count_by (λ (x : NameId). l.some_open && is_maybe_target l.table l.name x) l.target-iterator ≡ count_by (λ (x : NameId). l.some_open && is_maybe_target l.table l.name x) l.initial.target-iterator;
  few_covered : l.covered + length l.target-iterator < 4294967296;
  few_maybes : l.maybes + length l.target-iterator < 4294967296;
}
