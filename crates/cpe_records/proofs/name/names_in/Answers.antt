use Rattle.std.proofs.Common.{◌≡◌, ◌+◌, sym, ap, ◌∙◌, subst, get_or, arith}
use Rattle.std.specs.Prelude.{Ok}
use Rattle.serde_json.specs.View.{view}
use Rattle.cpe_records.specs.Names.{named_in}
use Rattle.cpe_records.specs.Gives.{Fails, is_memory_fault}
use Rattle.cpe_records.specs.declared.member.Member.TheVariants as member
use Rattle.cpe_records.specs.declared.member.NameSpot.TheVariants as spot
use Rattle.cpe_records.proofs.AllFrom.{all_from-more, all_from_fails}
use Rattle.cpe_records.proofs.name.names_in.Goals as goal

pub loop-json-preserved : goal.loop-json-preserved
loop-json-preserved c =
    let f = c.args.format in
    let i = c.loop-json.json-index in
    let here : named_in f member.Successors (spot.Successor (1 + i)) (view (get_or c.args.json_list.now i c.json-item.result)) ≡ Ok c.in-Ok.name =
    ap (λ v. named_in f member.Successors (spot.Successor (1 + i)) (view v)) (sym c.json-item.is) ∙ (ap (λ k. named_in f member.Successors (spot.Successor k) (view c.json-item.result)) (sym c.loop-json.invariant.0) ∙ c.in-Ok.ensures) in
    let read = all_from-more view (λ k. named_in f member.Successors (spot.Successor k)) 1 i c.args.json_list.now c.json-item.result c.loop-json-test.true
    c.loop-json.names c.in-Ok.name c.loop-json.invariant.1 here in
    (omega (arith, c.in_ok-k.ensures.ok), cc (read, c.in_ok-push-in-Ok.ensures.ok))

pub returns-in-Err : goal.returns-in-Err
returns-in-Err c =
    let f = c.args.format in
    let i = c.loop-json.json-index in
    let at = subst (λ k. Fails c.in-Err.fault (named_in f member.Successors (spot.Successor k) (view c.json-item.result))) c.loop-json.invariant.0 c.in-Err.ensures in
    all_from_fails view (λ k. named_in f member.Successors (spot.Successor k)) 1 i c.args.json_list.now c.json-item.result c.loop-json-test.true
    is_memory_fault c.loop-json.names c.in-Err.fault c.loop-json.invariant.1
    (subst (λ v. Fails c.in-Err.fault (named_in f member.Successors (spot.Successor (1 + i)) (view v))) c.json-item.is at)
