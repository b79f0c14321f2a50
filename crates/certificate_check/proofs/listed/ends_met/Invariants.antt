use Rattle.std.proofs.Common.{◌-◌, ◌^◌, map}
use Rattle.cpe_rows.specs.Lent.{entry_lent}
use Rattle.certificate_check.proofs.Visits.{AreMet}
use Rattle.certificate_check.proofs.listed.ends_met.Given as goal

abbrev pub invariant-loop-name : goal.invariant-loop-name
invariant-loop-name l = AreMet (map entry_lent l.entries) l.initial.met l.met l.ends l.k

abbrev pub decreases-loop-name : goal.decreases-loop-name
decreases-loop-name l = 2 ^ 64 - l.k
