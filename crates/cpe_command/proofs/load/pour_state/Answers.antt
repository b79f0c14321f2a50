use Rattle.std.proofs.Common.{◌++◌, ap, ◌∙◌}
use Rattle.std.proofs.lemmas.Result.{on_ok_weaker}
use Rattle.cpe_rows.specs.Counts.{counts_of}
use Rattle.cpe_rows.specs.declared.counts.Counts.{Counts}
use Rattle.convert_lines.specs.line_replies.Replies.{verdict_table}
use Rattle.cpe_command.specs.Loading.{counts_text}
use Rattle.cpe_command.proofs.LoadLemmas.{Pours-put_more, prefix_put_more}
use Rattle.cpe_command.proofs.load.pour_state.Goals as goal

pub returns-in-Ok-clause-ok : goal.returns-in-Ok-clause-ok
returns-in-Ok-clause-ok g c =
    let put = c.in-Ok.ensures ∙ ap (λ (counts : Counts). c.args.page.now ++ counts_text counts) c.counts.ensures in
    on_ok_weaker c.pour_verdicts.result
    (Pours-put_more c.args.page.now c.push_counts.new.page (counts_text (counts_of c.args.engine.now)) (verdict_table c.args.engine.now) put)
    c.pour_verdicts.ensures.ok

pub returns-in-Ok-clause-prefix : goal.returns-in-Ok-clause-prefix
returns-in-Ok-clause-prefix g c =
    let put = c.in-Ok.ensures ∙ ap (λ (counts : Counts). c.args.page.now ++ counts_text counts) c.counts.ensures in
    prefix_put_more c.args.page.now c.push_counts.new.page (counts_text (counts_of c.args.engine.now)) (verdict_table c.args.engine.now) put
    c.pour_verdicts.ensures.prefix
