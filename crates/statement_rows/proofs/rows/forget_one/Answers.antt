use Rattle.std.proofs.Common.{◌∙◌}
use Rattle.statement_rows.specs.Rows.{forget_change}
use Rattle.statement_rows.proofs.RowLemmas.{changed_rows}
use Rattle.statement_rows.proofs.rows.forget_one.Goals as goal

pub returns-clause-rows : goal.returns-clause-rows
returns-clause-rows c = c.change.ensures.items ∙ changed_rows forget_change c.args.ticket c.args.rows.now.items
