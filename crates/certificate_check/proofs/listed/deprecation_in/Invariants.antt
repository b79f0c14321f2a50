use Rattle.std.proofs.Common.{map}
use Rattle.cpe_rows.specs.Lent.{entry_lent}
use Rattle.cpe_rows.specs.Rows.{is_named}
use Rattle.certificate_check.proofs.Loops.{IsLeft}
use Rattle.certificate_check.proofs.listed.deprecation_in.Given as goal

abbrev pub invariant-loop-entry : goal.invariant-loop-entry
invariant-loop-entry l = IsLeft (is_named l.name) (map entry_lent l.entries) l.entry-index
