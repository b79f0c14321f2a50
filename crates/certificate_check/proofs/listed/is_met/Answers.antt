use Rattle.std.proofs.Common.{map, ◌∙◌}
use Rattle.cpe_rows.specs.Lent.{entry_lent}
use Rattle.certificate_check.specs.Relates.{related}
use Rattle.certificate_check.proofs.Facts.{met_is}
use Rattle.certificate_check.proofs.listed.is_met.Goals as goal

pub returns : goal.returns
returns c = λ fact of_fact.
    c.has_met.ensures
    ∙ met_is (related c.args.relates) (map entry_lent c.args.entries.now) fact c.args.item.now c.args.fact_ends.now c.in_ok-item_ends.item_ends of_fact
    c.in_ok-item_ends.ensures
