use Rattle.std.proofs.Common.{take_all, ◌-◌, List, map, take, get_or}
use Rattle.std.proofs.lemmas.List.{map_more}
use Rattle.cpe_rows.specs.Shape.{largest}
use Rattle.cpe_records.specs.Tests.{draft_depth}
use Rattle.cpe_records.specs.declared.draft.Draft.{Draft}
use Rattle.cpe_rows.proofs.Within.{within-snoc, suc_within}
use Rattle.cpe_records.proofs.DraftDepth.{draft_depth-logic}
use Rattle.cpe_records.proofs.draft.Draft.+is_within.Goals as goal

pub loop-child-preserved : goal.loop-child-preserved
loop-child-preserved t c =
    let items : List Draft = c.as_slice-child-items.result.now in
    let i = c.loop-child.child-index in
    cc (map_more draft_depth items i c.child-item.result c.loop-child-test.true, within-snoc (map draft_depth (take i items)) (draft_depth (get_or items i c.child-item.result)) (c.args.limit - 1))

pub returns-after-loop-child : goal.returns-after-loop-child
returns-after-loop-child t c =
    cc (draft_depth-logic c.in-Logic.operator c.in-Logic.negate c.in-Logic.of, suc_within (largest (map draft_depth c.in-Logic.of)) c.args.limit c.if-limit-eq0.false, take_all c.loop-child.child-index c.as_slice-child-items.result.now c.loop-child-test.false)
