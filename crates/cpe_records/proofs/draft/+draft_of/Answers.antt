use Rattle.std.proofs.Common.{◌<◌, map, not, codes, sym, ap, ◌∙◌, subst, rules}
use Rattle.cpe_records.specs.declared.member.RecordFault.TheVariants as fault
use Rattle.cpe_records.specs.declared.member.Member.TheVariants as part
use Rattle.serde_json.specs.Data.{depth}
use Rattle.serde_json.specs.Find.{get}
use Rattle.serde_json.specs.View.{view}
use Rattle.cpe_records.specs.Gives.{Fails, ReadsMember, is_memory_fault}
use Rattle.cpe_records.specs.Tests.{draft_of, logic_in}
use Rattle.cpe_records.proofs.AllFrom.{all_from-more, all_from-whole, all_from_fails}
use Rattle.cpe_records.proofs.Depths.{item_falls}
use Rattle.cpe_records.proofs.Drafts.{draft_of-logic, logic_fails, looked_up, looked_up-items, looked_up-none}
use Rattle.cpe_records.proofs.draft.+draft_of.Goals as goal

pub returns-in_default : goal.returns-in_default
returns-in_default t c =
    let d = view c.args.json.now in
    let logic = draft_of-logic (λ v. view v.now) c.args.format d c.get.result c.get.ensures (c.is_none.ensures ∙ ap not c.if-is_none.false) in
    logic ∙ logic_fails d (fault.Member part.Test) (looked_up c.args.format (get (codes "of") d)) (looked_up-none c.args.format (get (codes "of") d) c.in_default.ensures)

pub draft_of-requires : goal.draft_of-requires
draft_of-requires t c =
    let smaller : depth (view c.item-item.result) < depth (view c.args.json.now) =
    item_falls view (codes "of") (view c.args.json.now) c.in-Some.items.now c.loop-item.item-index c.item-item.result c.loop-item-test.true c.item-item.is c.in-Some.ensures in
    search (rules, smaller)

pub returns-in-Err : goal.returns-in-Err
returns-in-Err t c =
    let d = view c.args.json.now in
    let fails = all_from_fails view (λ k. draft_of c.args.format) 1 c.loop-item.item-index c.in-Some.items.now c.item-item.result c.loop-item-test.true
    is_memory_fault c.loop-item.of c.in-Err.fault c.loop-item.invariant (subst (λ v. Fails c.in-Err.fault (draft_of c.args.format (view v))) c.item-item.is c.in-Err.ensures) in
    let logic = draft_of-logic (λ v. view v.now) c.args.format d c.get.result c.get.ensures (c.is_none.ensures ∙ ap not c.if-is_none.false) in
    let children : Fails c.in-Err.fault (looked_up c.args.format (get (codes "of") d)) =
    subst (Fails c.in-Err.fault) (sym (looked_up-items c.args.format (get (codes "of") d) (map view c.in-Some.items.now) c.in-Some.ensures)) fails in
    subst (Fails c.in-Err.fault) (sym logic) (logic_fails d c.in-Err.fault (looked_up c.args.format (get (codes "of") d)) children)

pub loop-item-preserved : goal.loop-item-preserved
loop-item-preserved t c =
    let read = all_from-more view (λ k. draft_of c.args.format) 1 c.loop-item.item-index c.in-Some.items.now c.item-item.result c.loop-item-test.true
    c.loop-item.of c.in-Ok.draft c.loop-item.invariant (ap (λ v. draft_of c.args.format (view v)) (sym c.item-item.is) ∙ c.in-Ok.ensures) in
    cc (read, c.in_ok-push-in-Ok.ensures.ok)

pub returns : goal.returns
returns t c =
    let d = view c.args.json.now in
    let items = c.in-Some.items.now in
    let logic = draft_of-logic (λ v. view v.now) c.args.format d c.get.result c.get.ensures (c.is_none.ensures ∙ ap not c.if-is_none.false) in
    let all = all_from-whole view (λ k. draft_of c.args.format) 1 c.loop-item.item-index items c.loop-item.of c.loop-item-test.false c.loop-item.invariant in
    let children = looked_up-items c.args.format (get (codes "of") d) (map view items) c.in-Some.ensures ∙ all in
    subst (ReadsMember c.logic_of.result) (sym (logic ∙ ap (logic_in d) children)) c.logic_of.ensures
