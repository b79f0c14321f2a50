use Rattle.std.proofs.Common.{◌+◌, ◌≤◌, drop}
use Rattle.std.specs.List.{AllByRecursion}
use Rattle.name_index.specs.declared.products.Side.TheVariants as side
use Rattle.name_index.specs.declared.table.NameId.{NameId}
use Rattle.name_index.specs.Table.{IsLive}
use Rattle.level_board.specs.Board.{target_ids}
use Rattle.fact_boards.specs.Lists.{Asking, fact_looks}
use Rattle.fact_boards.proofs.lists.ask.Given as goal

abbrev pub invariant-loop-id : goal.invariant-loop-id
invariant-loop-id g l = record {
  live : AllByRecursion (λ (x : NameId). IsLive l.table x.0) (drop l.id-index l.numbers);
  done : Asking l.fn.board l.board l.table l.numbers (drop l.id-index l.numbers);
  looked : l.steps + fact_looks l.table side.Source (target_ids l.fn.board) (drop l.id-index l.numbers) ≤ l.fn.steps + fact_looks l.table side.Source (target_ids l.fn.board) l.numbers;
  rise : l.fn.steps ≤ l.steps;
}
