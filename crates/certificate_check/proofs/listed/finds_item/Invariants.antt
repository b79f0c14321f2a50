use Rattle.std.proofs.Common.{map}
use Rattle.std.specs.Borrow.{Bor}
use Rattle.cpe_rows.specs.cpe_name.Eleven.{Values}
use Rattle.cpe_rows.specs.Lent.{entry_lent}
use Rattle.cpe_rows.specs.Verdict.{is_followed}
use Rattle.certificate_check.specs.Relates.{related}
use Rattle.certificate_check.proofs.Loops.{AnyLeft}
use Rattle.certificate_check.proofs.listed.finds_item.Given as goal

abbrev pub invariant-loop-item : goal.invariant-loop-item
invariant-loop-item l =
    AnyLeft (is_followed (related l.relates) (map entry_lent l.entries) l.name) (map (λ (i : Bor Values). i.now) l.items) l.item-index
