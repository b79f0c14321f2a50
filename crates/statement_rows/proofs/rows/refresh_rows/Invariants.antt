use Rattle.std.proofs.Common.{◌≡◌, take, vec_capacity}
use Rattle.statement_rows.specs.Invariant.{IsNoted}
use Rattle.statement_rows.specs.Rows.{at_rows, judge_row}
use Rattle.statement_rows.proofs.rows.refresh_rows.Given as goal

abbrev pub invariant-loop-ticket : goal.invariant-loop-ticket
invariant-loop-ticket g l = record {
  rows : l.rows.items ≡ at_rows (take l.ticket-index l.list) (judge_row l.cause (g.T.FactTruth.fact_truth l.facts) l.results.list) l.initial.rows.items;
  ready : l.rows.ready ≡ l.initial.rows.ready;
  noted : IsNoted l.rows.items l.changed;
  capacity : vec_capacity l.changed ≡ vec_capacity l.initial.changed;
}
