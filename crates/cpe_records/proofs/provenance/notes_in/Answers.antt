use Rattle.std.proofs.Common.{sym, ap, ◌∙◌, subst}
use Rattle.serde_json.specs.View.{view}
use Rattle.cpe_records.specs.Provenance.{note_in}
use Rattle.cpe_records.specs.Gives.{Fails, is_memory_fault}
use Rattle.cpe_records.proofs.AllFrom.{all_from-more, all_from_fails}
use Rattle.cpe_records.proofs.provenance.notes_in.Goals as goal

pub loop-json-preserved : goal.loop-json-preserved
loop-json-preserved c =
    let i = c.loop-json.json-index in
    let read = all_from-more view (λ n. note_in) 1 i c.args.json_list.now c.json-item.result c.loop-json-test.true
    c.loop-json.notes c.in-Ok.note c.loop-json.invariant (ap (λ v. note_in (view v)) (sym c.json-item.is) ∙ c.in-Ok.ensures) in
    cc (read, c.in_ok-push-in-Ok.ensures.ok)

pub returns-in-Err : goal.returns-in-Err
returns-in-Err c =
    all_from_fails view (λ n. note_in) 1 c.loop-json.json-index c.args.json_list.now c.json-item.result c.loop-json-test.true
    is_memory_fault c.loop-json.notes c.in-Err.fault c.loop-json.invariant (subst (λ v. Fails c.in-Err.fault (note_in (view v))) c.json-item.is c.in-Err.ensures)
