use Rattle.std.proofs.Common.{map}
use Rattle.std.specs.Borrow.{Bor}
use Rattle.cpe_rows.specs.cpe_name.Eleven.{Values}
use Rattle.certificate_check.specs.Relates.{related}
use Rattle.certificate_check.proofs.Loops.{IsLeft}
use Rattle.certificate_search.proofs.fits.first_relating.Given as goal

abbrev pub invariant-loop-relating : goal.invariant-loop-relating
invariant-loop-relating l = IsLeft (λ (n : Values). related l.relates n l.name) (map (λ (n : Bor Values). n.now) l.names) l.relating-index
