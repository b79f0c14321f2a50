use Rattle.cpe_rows.specs.declared.statement.Mode.TheVariants.{Follow}
use Rattle.std.proofs.Common.{take}
use Rattle.std.specs.List.{list_any}
use Rattle.name_index.specs.declared.table.NameId.{NameId}
use Rattle.fact_rows.specs.Facts.{has_end_of_fact, IsChangeList, facts_of_end}
use Rattle.fact_rows.specs.Calls.{RowsRefreshed}
use Rattle.fact_rows.proofs.refresh.refresh_ends.Given as goal

abbrev pub invariant-loop-end : goal.invariant-loop-end
invariant-loop-end l = record {
  changes : IsChangeList l.rows.entries l.changed;
  rows : RowsRefreshed l.initial.rows.entries l.rows.entries l.initial.changed.items l.changed.items (λ q. list_any (λ (id : NameId). has_end_of_fact (facts_of_end l.by_end.entries id.0) q) (take l.end-index l.ends)) Follow l.board;
}
