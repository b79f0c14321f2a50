use Rattle.std.proofs.Common.{sym, ◌∙◌, subst}
use Rattle.line_session.proofs.Runs.{Ran-besides}
use Rattle.cpe_rows.specs.Rows.{Rows}
use Rattle.drill_lines.specs.Drill.{LeavesRows}
use Rattle.drill_lines.proofs.run.drill.Goals as goal

-- the rows are in the engine again
pub returns-clause-ran : goal.returns-clause-ran
returns-clause-ran g c = λ left.
    Ran-besides (c.drill_records-status.ensures.ran left)
    (λ taken leaves. subst (λ (rows : Rows). LeavesRows c.args.count rows c.drill_records-status.result) (sym (c.put_back.ensures ∙ c.into_engine.ensures)) leaves)
