use Rattle.std.proofs.Common.{◌≡◌, drop}
use Rattle.std.specs.List.{AllByRecursion}
use Rattle.name_index.specs.declared.table.NameId.{NameId}
use Rattle.name_index.specs.Table.{IsLive}
use Rattle.fact_boards.specs.Lists.{Unasking}
use Rattle.fact_boards.proofs.lists.unask.Given as goal

abbrev pub invariant-loop-id : goal.invariant-loop-id
invariant-loop-id g l = record {
  live : AllByRecursion (λ (x : NameId). IsLive l.table x.0) (drop l.id-index l.numbers);
  done : Unasking l.fn.board l.board l.table l.numbers (drop l.id-index l.numbers);
  looked : l.steps ≡ l.fn.steps;
}
