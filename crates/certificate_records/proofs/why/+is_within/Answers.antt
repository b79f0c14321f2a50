use Rattle.std.proofs.Common.{◌-◌, map, nat_le, take_all, ap, sym, ◌∙◌}
use Rattle.cpe_rows.specs.Shape.{largest}
use Rattle.cpe_rows.proofs.Within.{suc_within}
use Rattle.certificate_records.proofs.Levels.{levels_at, levels-logic, within_more, nothing_more}
use Rattle.certificate_records.proofs.why.+is_within.Goals as goal

pub loop-given-preserved-in_default : goal.loop-given-preserved-in_default
loop-given-preserved-in_default t c =
    c.loop-given.invariant
    ∙ sym (nothing_more c.as_slice-given-items.result.now c.loop-given.given-index c.given-item.result (c.args.limit - 1) c.loop-given-test.true
    c.given-item.is c.in_default.is)

pub loop-given-preserved : goal.loop-given-preserved
loop-given-preserved t c =
    let items = c.as_slice-given-items.result.now in
    let more = within_more items c.loop-given.given-index c.given-item.result (c.args.limit - 1) c.loop-given-test.true in
    let here = ap (λ o. nat_le (levels_at o) (c.args.limit - 1)) (sym c.given-item.is ∙ c.in-Some.is) in
    cc (more, here, c.is_within-within.ensures, c.loop-given.invariant)

pub returns-after-loop-given : goal.returns-after-loop-given
returns-after-loop-given t c =
    cc (levels-logic c.in-Logic.truth c.in-Logic.of, suc_within (largest (map levels_at c.in-Logic.of)) c.args.limit c.if-limit-eq0.false, take_all c.loop-given.given-index c.as_slice-given-items.result.now c.loop-given-test.false)
