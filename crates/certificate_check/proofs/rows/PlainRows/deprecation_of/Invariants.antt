use Rattle.cpe_rows.specs.Rows.{is_named}
use Rattle.certificate_check.proofs.Loops.{IsLeft}
use Rattle.certificate_check.proofs.rows.PlainRows.deprecation_of.Given as goal

abbrev pub invariant-loop-k : goal.invariant-loop-k
invariant-loop-k g l = IsLeft (is_named l.name) (g.Self.PlainRows.rows l.self).entries l.k
