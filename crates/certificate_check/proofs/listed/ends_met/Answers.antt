use Rattle.std.proofs.Common.{List, map, sym, subst}
use Rattle.cpe_rows.specs.cpe_name.Eleven.{Values}
use Rattle.cpe_rows.specs.Lent.{entry_lent}
use Rattle.certificate_check.proofs.Visits.{AreMet, visited, ends_met}
use Rattle.certificate_check.proofs.listed.ends_met.Goals as goal

pub loop-name-preserved : goal.loop-name-preserved
loop-name-preserved c =
    visited (map entry_lent c.args.entries.now) c.args.met.now c.loop-name.met c.loop-name.ends c.loop-name.k c.loop-name.invariant
    c.in-Some.name.now (sym c.in-Some.ensures.name) c.visit.new.met c.visit.new.ends c.in_ok-visit.ensures.met c.in_ok-visit.ensures.ends

pub returns : goal.returns
returns c = λ n begun.
    ends_met (map entry_lent c.args.entries.now) c.requires n c.loop-name.met c.loop-name.ends c.loop-name.k
    (subst (λ (starts : List Values). AreMet (map entry_lent c.args.entries.now) starts c.loop-name.met c.loop-name.ends c.loop-name.k) begun c.loop-name.invariant)
    (sym c.in_default.ensures.name)
