use Rattle.std.proofs.Common.{map}
use Rattle.std.specs.Borrow.{Bor}
use Rattle.cpe_rows.specs.cpe_name.Eleven.{Values}
use Rattle.certificate_check.specs.Relates.{related}
use Rattle.certificate_search.proofs.FirstFits.{IsFirst}
use Rattle.certificate_search.proofs.fits.fit_of.Given as goal

abbrev pub invariant-loop-item_end : goal.invariant-loop-item_end
invariant-loop-item_end l =
    IsFirst (related l.relates) (map (λ (n : Bor Values). n.now) l.fact_ends) l.item (map (λ (n : Bor Values). n.now) l.item_ends) l.item_end-index
