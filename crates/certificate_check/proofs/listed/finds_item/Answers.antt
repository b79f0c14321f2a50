use Rattle.std.proofs.Common.{Bool, map, sym, ◌∙◌}
use Rattle.cpe_rows.specs.cpe_name.Eleven.{Values}
use Rattle.cpe_rows.specs.Lent.{entry_lent}
use Rattle.cpe_rows.specs.Verdict.{is_followed}
use Rattle.certificate_check.specs.Relates.{related}
use Rattle.certificate_check.proofs.Loops.{any_here, any_none, any_next, now, shown_at, shown_past}
use Rattle.certificate_check.proofs.listed.finds_item.Goals as goal

pub returns-then-branch : goal.returns-then-branch
returns-then-branch c =
    let p : Values → Bool = is_followed (related c.args.relates) (map entry_lent c.args.entries.now) c.args.name.now in
    sym (any_here p (map now c.args.items.now) c.loop-item.item-index c.item-item.result.now c.loop-item.invariant
    (shown_at now c.args.items.now c.loop-item.item-index c.item-item.result c.loop-item-test.true c.item-item.is)
    (sym (c.in_ok-is_met.ensures c.args.name.now c.in_ok-ends.ensures) ∙ c.if-branch.true))

pub loop-item-preserved : goal.loop-item-preserved
loop-item-preserved c =
    let p : Values → Bool = is_followed (related c.args.relates) (map entry_lent c.args.entries.now) c.args.name.now in
    any_next p (map now c.args.items.now) c.loop-item.item-index c.item-item.result.now c.loop-item.invariant
    (shown_at now c.args.items.now c.loop-item.item-index c.item-item.result c.loop-item-test.true c.item-item.is)
    (sym (c.in_ok-is_met.ensures c.args.name.now c.in_ok-ends.ensures) ∙ c.if-branch.false)

pub returns : goal.returns
returns c =
    let p : Values → Bool = is_followed (related c.args.relates) (map entry_lent c.args.entries.now) c.args.name.now in
    sym (any_none p (map now c.args.items.now) c.loop-item.item-index c.loop-item.invariant
    (shown_past now c.args.items.now c.loop-item.item-index c.loop-item-test.false))
