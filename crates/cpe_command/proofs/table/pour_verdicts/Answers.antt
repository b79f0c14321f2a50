use Rattle.std.proofs.lemmas.Result.{on_ok_weaker}
use Rattle.cpe_command.proofs.TableRows.{table-poured, table-begun}
use Rattle.cpe_command.proofs.table.pour_verdicts.Goals as goal

pub returns-in-Ok-clause-ok : goal.returns-in-Ok-clause-ok
returns-in-Ok-clause-ok g c =
    on_ok_weaker c.pour_table.result
    (table-poured c.args.engine.now c.statements_len.result _ _ c.args.page.now c.push_head.new.page c.pour_table.new.page c.statements_len.ensures c.in-Ok.ensures)
    c.pour_table.ensures.ok

pub returns-in-Ok-clause-prefix : goal.returns-in-Ok-clause-prefix
returns-in-Ok-clause-prefix g c =
    table-begun c.args.engine.now c.statements_len.result _ _ c.args.page.now c.push_head.new.page c.statements_len.ensures c.in-Ok.ensures
    c.pour_table.ensures.prefix
