use Rattle.std.proofs.Common.{◌≡◌}
use Rattle.line_session.specs.Pages.{Pours}
use Rattle.line_session.specs.Table.{rows_text}
use Rattle.line_session.proofs.table.pour_table.Given as goal

abbrev pub invariant-loop-k : goal.invariant-loop-k
invariant-loop-k g l = record {
  pours : Pours (g.K.Sink.held l.fn.sink) (g.K.Sink.held l.sink) l.fn.page l.page (rows_text (g.R.Table.text l.table) l.k);
  still : g.K.Sink.faults l.sink ≡ g.K.Sink.faults l.fn.sink;
}
