use Rattle.std.proofs.Common.{sym, subst, ◌∙◌}
use Rattle.std.proofs.lemmas.Result.{IfOk-weaker}
use Rattle.snapshot_bytes.specs.States.{Snap}
use Rattle.engine_snapshot.proofs.WriteLemmas.{all_written, by_both}
use Rattle.engine_snapshot.proofs.write.write_snapshot.Goals as goal

pub returns : goal.returns
returns c =
    let rows = c.args.engine.now in
    let all =
    all_written rows c.entries_len.result c.items_len.result c.statements_len.result c.checks_len.result c.in_ok-room.room.items c.in_ok-out.out.items c.in_ok-out-2.out.items
    c.in_ok-out-3.out.items c.in_ok-out-4.out.items c.entries_len.ensures c.items_len.ensures c.statements_len.ensures c.checks_len.ensures c.in_ok-room.ensures.items
    c.in_ok-out.ensures c.in_ok-out-2.ensures.written c.in_ok-out-3.ensures c.in_ok-out-4.ensures.written in
    record {
      written = IfOk-weaker c.push_results.result _ _ (λ b is. is ∙ all) c.push_results.ensures.written;
      snap = by_both c.push_results.result _ _ _ c.push_results.ensures.written c.push_results.ensures.texts
          (λ b is texts. subst (Snap rows) (sym (is ∙ all))
          (c.states_have_snapshots.ensures.some rows c.lawful.ensures (record { entries = c.in_ok-out-2.ensures.texts; statements = c.in_ok-out-4.ensures.texts; checks = texts })));
    }
