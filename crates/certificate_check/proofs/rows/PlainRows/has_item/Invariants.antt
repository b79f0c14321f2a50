use Rattle.cpe_rows.specs.Names.{is_same}
use Rattle.certificate_check.proofs.Loops.{AnyLeft}
use Rattle.certificate_check.proofs.rows.PlainRows.has_item.Given as goal

abbrev pub invariant-loop-k : goal.invariant-loop-k
invariant-loop-k g l = AnyLeft (is_same l.name) (g.Self.PlainRows.rows l.self).items l.k
