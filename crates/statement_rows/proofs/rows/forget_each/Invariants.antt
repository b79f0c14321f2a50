use Rattle.std.proofs.Common.{◌≡◌, take}
use Rattle.statement_rows.specs.Rows.{at_rows, forget_change}
use Rattle.statement_rows.proofs.rows.forget_each.Given as goal

abbrev pub invariant-loop-ticket : goal.invariant-loop-ticket
invariant-loop-ticket l = (l.rows.items ≡ at_rows (take l.ticket-index l.list) forget_change l.initial.rows.items) × (l.rows.ready ≡ l.initial.rows.ready)
