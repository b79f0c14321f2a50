use Rattle.std.proofs.Common.{◌-◌, length}
use Rattle.std.specs.Borrow.{Bor}
use Rattle.cpe_rows.specs.cpe_name.Eleven.{Values}
use Rattle.cpe_rows.specs.Lent.{entry_lent}
use Rattle.certificate_check.proofs.Loops.{AreListed}
use Rattle.certificate_check.proofs.rows.PlainRows.find_fact.Given as goal

abbrev pub invariant-loop-item : goal.invariant-loop-item
invariant-loop-item g l = AreListed (λ (i : Bor Values). i.now) (g.Self.PlainRows.rows l.self).items l.items.items l.place

abbrev pub decreases-loop-item : goal.decreases-loop-item
decreases-loop-item g l = length (g.Self.PlainRows.rows l.self).items - l.place

abbrev pub invariant-loop-entry : goal.invariant-loop-entry
invariant-loop-entry g l = AreListed entry_lent (g.Self.PlainRows.rows l.self).entries l.entries.items l.k

abbrev pub decreases-loop-entry : goal.decreases-loop-entry
decreases-loop-entry g l = length (g.Self.PlainRows.rows l.self).entries - l.k
