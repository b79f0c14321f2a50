use Rattle.cpe_rows.specs.Rows.{has_id}
use Rattle.certificate_check.proofs.Loops.{IsLeft}
use Rattle.certificate_check.proofs.rows.PlainRows.statement_of.Given as goal

abbrev pub invariant-loop-k : goal.invariant-loop-k
invariant-loop-k g l = IsLeft (has_id l.id) (g.Self.PlainRows.rows l.self).statements l.k
