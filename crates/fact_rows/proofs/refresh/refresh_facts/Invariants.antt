use Rattle.std.proofs.Common.{take}
use Rattle.fact_rows.specs.Facts.{has_end_of_fact, IsChangeList}
use Rattle.fact_rows.specs.Calls.{RowsRefreshed}
use Rattle.fact_rows.proofs.refresh.refresh_facts.Given as goal

abbrev pub invariant-loop-fact : goal.invariant-loop-fact
invariant-loop-fact l = record {
  changes : IsChangeList l.rows.entries l.changed;
  rows : RowsRefreshed l.initial.rows.entries l.rows.entries l.initial.changed.items l.changed.items (has_end_of_fact (take l.fact-index l.facts)) l.mode l.board;
}
