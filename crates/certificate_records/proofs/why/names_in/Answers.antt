use Rattle.std.proofs.Common.{◌≡◌, sym, ap, ◌∙◌, subst, get_or}
use Rattle.std.specs.Prelude.{Ok}
use Rattle.serde_json.specs.View.{view}
use Rattle.cpe_records.proofs.AllFrom.{all_from-more, all_from_fails}
use Rattle.cpe_records.specs.FirstFault.{FailsUnless}
use Rattle.certificate_records.specs.Gives.{is_certificate_memory}
use Rattle.certificate_records.specs.Reading.{certificate_name}
use Rattle.certificate_records.proofs.why.names_in.Goals as goal

pub loop-json-preserved : goal.loop-json-preserved
loop-json-preserved c =
    let i = c.loop-json.json-index in
    let here : certificate_name (view (get_or c.args.json_list.now i c.json-item.result)) ≡ Ok c.in-Ok.name =
    ap (λ v. certificate_name (view v)) (sym c.json-item.is) ∙ c.in-Ok.ensures in
    let read = all_from-more view (λ k. certificate_name) 1 i c.args.json_list.now c.json-item.result c.loop-json-test.true
    c.loop-json.names c.in-Ok.name c.loop-json.invariant here in
    cc (read, c.in_ok-push-in-Ok.ensures.ok)

pub returns-in-Err : goal.returns-in-Err
returns-in-Err c =
    all_from_fails view (λ k. certificate_name) 1 c.loop-json.json-index c.args.json_list.now c.json-item.result c.loop-json-test.true
    is_certificate_memory c.loop-json.names c.in-Err.fault c.loop-json.invariant
    (subst (λ v. FailsUnless is_certificate_memory c.in-Err.fault (certificate_name (view v))) c.json-item.is c.in-Err.ensures)
