use Rattle.std.proofs.Common.{sym, ap, ◌∙◌}
use Rattle.cpe_rows.specs.After.{after}
use Rattle.cpe_rows.specs.Rows.{Rows}
use Rattle.cpe_rows.specs.Weight.{weight}
use Rattle.engine_edits.specs.Parts.{edit_in, rows_in}
use Rattle.engine_edits.proofs.PartsLemmas.{stay_kept}
use Rattle.engine_edits.proofs.ReadyLemmas.{ready_over}
use Rattle.engine_edits.proofs.applied.ready_checked.Goals as goal

pub ready_by_kind-requires-clause-ready : goal.ready_by_kind-requires-clause-ready
ready_by_kind-requires-clause-ready c = record { beside = c.requires.beside; accepted = c.requires.checked.accepted; none = c.requires.checked.none }

pub returns-in-Ok-clause-ready : goal.returns-in-Ok-clause-ready
returns-in-Ok-clause-ready c =
    let p = c.args.parts.now in
    let q = c.ready_by_kind.new.parts in
    let e = edit_in p c.args.numbered in
    let made = c.in-Ok.ensures in
    record {
      is = made.edit;
      ready = ready_over p q e c.in-Ok.edit c.args.room made.same made.edit c.requires.beside.lawful c.requires.checked.accepted c.requires.checked.none c.requires.known c.requires.empty c.requires.spare made.all;
      weight = c.requires.checked.weight ∙ ap (λ (x : Rows). weight (after x e)) (sym made.same.rows);
    }

pub returns-in-Err-clause-kept : goal.returns-in-Err-clause-kept
returns-in-Err-clause-kept c =
    let p = c.args.parts.now in
    let made = c.in-Err.ensures in
    stay_kept c.ready_by_kind.new.parts (rows_in p) p.weight c.requires.beside.lawful made.same.weight c.requires.beside.weight made.left
