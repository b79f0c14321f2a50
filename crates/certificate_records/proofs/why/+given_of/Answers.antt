use Rattle.std.proofs.Common.{map, not, codes, sym, ap, ◌∙◌, subst, rules}
use Rattle.serde_json.specs.View.{view}
use Rattle.cpe_records.proofs.AllFrom.{all_from-more, all_from-whole, all_from_fails}
use Rattle.cpe_records.proofs.Depths.{item_falls}
use Rattle.cpe_records.specs.FirstFault.{FailsUnless}
use Rattle.certificate_records.specs.Gives.{ReadsCertificate, is_certificate_memory}
use Rattle.certificate_records.specs.Reading.{given_of, logic_in, some_why}
use Rattle.certificate_records.proofs.Givens.{has_of, none_there, all_there, child_fails}
use Rattle.certificate_records.proofs.why.+given_of.Goals as goal

pub returns-in_default : goal.returns-in_default
returns-in_default t c =
    let d = view c.args.json.now in
    let has_it = has_of (λ v. view v.now) d c.get.result c.get.ensures (c.is_none.ensures ∙ ap not c.if-is_none.false) in
    none_there d (sym c.is_null.ensures ∙ c.if-is_null.false) has_it c.in_default.ensures

pub given_of-requires : goal.given_of-requires
given_of-requires t c =
    search (rules, item_falls view (codes "of") (view c.args.json.now) c.in-Some.items.now c.loop-item.item-index c.item-item.result c.loop-item-test.true c.item-item.is c.in-Some.ensures)

pub returns-in-Err : goal.returns-in-Err
returns-in-Err t c =
    let d = view c.args.json.now in
    let has_it = has_of (λ v. view v.now) d c.get.result c.get.ensures (c.is_none.ensures ∙ ap not c.if-is_none.false) in
    let fails = all_from_fails view (λ k. given_of) 1 c.loop-item.item-index c.in-Some.items.now c.item-item.result c.loop-item-test.true
    is_certificate_memory c.loop-item.of c.in-Err.fault c.loop-item.invariant (subst (λ v. FailsUnless is_certificate_memory c.in-Err.fault (given_of (view v))) c.item-item.is c.in-Err.ensures) in
    child_fails d (sym c.is_null.ensures ∙ c.if-is_null.false) has_it (map view c.in-Some.items.now) c.in-Some.ensures c.in-Err.fault fails

pub loop-item-preserved : goal.loop-item-preserved
loop-item-preserved t c =
    let read = all_from-more view (λ k. given_of) 1 c.loop-item.item-index c.in-Some.items.now c.item-item.result c.loop-item-test.true
    c.loop-item.of c.in-Ok.given c.loop-item.invariant (ap (λ v. given_of (view v)) (sym c.item-item.is) ∙ c.in-Ok.ensures) in
    cc (read, c.in_ok-push-in-Ok.ensures.ok)

pub returns : goal.returns
returns t c =
    let d = view c.args.json.now in
    let items = c.in-Some.items.now in
    let has_it = has_of (λ v. view v.now) d c.get.result c.get.ensures (c.is_none.ensures ∙ ap not c.if-is_none.false) in
    let all = all_from-whole view (λ k. given_of) 1 c.loop-item.item-index items c.loop-item.of c.loop-item-test.false c.loop-item.invariant in
    let is = all_there d (sym c.is_null.ensures ∙ c.if-is_null.false) has_it (map view items) c.in-Some.ensures ∙ ap (λ r. some_why (logic_in d r)) all in
    subst (ReadsCertificate c.logic_of.result) (sym is) c.logic_of.ensures
