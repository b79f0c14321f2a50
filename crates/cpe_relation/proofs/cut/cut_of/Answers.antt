use Rattle.std.proofs.Common.{true, false, arith}
use Rattle.cpe_relation.specs.Folded.{IsBefore}
use Rattle.memchr.proofs.lemmas.CriticalLemmas.{IsCutPlace-of}
use Rattle.cpe_relation.proofs.Orders.{IsReached-trans, IsReached-irrefl, IsReached-opposed}
use Rattle.cpe_relation.proofs.cut.cut_of.Goals as goal

pub cut_at-requires : goal.cut_at-requires
cut_at-requires c =
    let opposite = c.greatest_suffix-opposite.ensures in
    let usual = c.greatest_suffix-usual.ensures in
    let fits = opposite.fits in
    let some = opposite.some in
    IsCutPlace-of (IsBefore false) (IsBefore true) (IsReached-trans false) (IsReached-irrefl false) (IsReached-irrefl true)
    (λ a b p q. IsReached-opposed a b q p) _ _ _ _ (omega arith) opposite.greatest usual.greatest (omega arith) _ opposite

pub cut_at-requires-else-opposite-usual : goal.cut_at-requires-else-opposite-usual
cut_at-requires-else-opposite-usual c =
    let opposite = c.greatest_suffix-opposite.ensures in
    let usual = c.greatest_suffix-usual.ensures in
    let fits = usual.fits in
    let some = usual.some in
    IsCutPlace-of (IsBefore true) (IsBefore false) (IsReached-trans true) (IsReached-irrefl true) (IsReached-irrefl false)
    IsReached-opposed _ _ _ _ (omega arith) usual.greatest opposite.greatest (omega arith) _ usual
