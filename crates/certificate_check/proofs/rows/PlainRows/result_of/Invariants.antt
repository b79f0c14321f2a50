use Rattle.cpe_rows.specs.Rows.{has_key}
use Rattle.certificate_check.proofs.Loops.{IsLeft}
use Rattle.certificate_check.proofs.rows.PlainRows.result_of.Given as goal

abbrev pub invariant-loop-k : goal.invariant-loop-k
invariant-loop-k g l = IsLeft (has_key l.key) (g.Self.PlainRows.rows l.self).checks l.k
