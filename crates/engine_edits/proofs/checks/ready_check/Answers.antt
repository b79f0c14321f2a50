use Rattle.std.proofs.Common.{[], refl, ap, subst, sym}
use Rattle.cpe_rows.specs.declared.edit.Edit.TheVariants as edit
use Rattle.cpe_rows.specs.Rows.{Rows}
use Rattle.cpe_rows.specs.declared.test.CheckKey.{CheckKey}
use Rattle.verdicts.specs.statement_rows.State.{IsReadyTruth}
use Rattle.engine_edits.specs.Parts.{AreOf, rows_in}
use Rattle.engine_edits.specs.declared.parts.EngineParts.{EngineParts}
use Rattle.engine_edits.proofs.PartsLemmas.{by_verdicts}
use Rattle.engine_edits.proofs.ReadyLemmas.{rows_stay, same_parts, same_registry}
use Rattle.engine_edits.proofs.checks.ready_check.Goals as goal

pub returns-in-Ok : goal.returns-in-Ok
returns-in-Ok c =
    let p = c.args.parts.now in
    let rows = rows_in p in
    let w = c.ready_result.new.self in
    let q : EngineParts = record p { verdicts = w } in
    let same = c.in-Ok.ensures.same in
    let here = same_registry p.registry in
    let are = c.requires.beside.are in
    record {
      same = same_parts p q here same refl;
      edit = ap (λ k. edit.SetCheck k c.args.truth) c.in-Ok.ensures.ready.key;
      all = record {
        are = subst (λ (x : Rows). AreOf p.registry w x []) (sym (rows_stay p q here same)) (by_verdicts p.registry p.verdicts w rows [] (c.in-Ok.ensures.verdicts p.registry.table rows are.verdicts) are);
        room = subst (λ (k : CheckKey). IsReadyTruth w.statements k c.in-Ok.key) (sym c.in-Ok.ensures.ready.key) c.in-Ok.ensures.ready;
      };
      left = tt;
    }

pub returns-in-Err : goal.returns-in-Err
returns-in-Err c =
    let p = c.args.parts.now in
    let rows = rows_in p in
    let w = c.ready_result.new.self in
    let q : EngineParts = record p { verdicts = w } in
    let same = c.in-Err.ensures.same in
    let are = c.requires.beside.are in
    record { same = same_parts p q (same_registry p.registry) same refl; edit = tt; all = tt; left = by_verdicts p.registry p.verdicts w rows [] (c.in-Err.ensures.verdicts p.registry.table rows are.verdicts) are }
