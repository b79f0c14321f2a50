use Rattle.std.proofs.Common.{cond, ap, sym, ◌∙◌}
use Rattle.statement_rows.specs.declared.row.Cause.{Cause}
use Rattle.statement_rows.specs.declared.row.NumberedStatement.{NumberedStatement}
use Rattle.statement_rows.specs.Rows.{by_result_after, each_verdict, verdict_after, verdict_by}
use Rattle.statement_rows.proofs.rows.refresh_of.Goals as goal

pub returns-in-Fact : goal.returns-in-Fact
returns-in-Fact g c =
    let truth = g.T.FactTruth.fact_truth c.args.facts.now in
    let row = c.args.row.now in
    record {
      verdict = c.verdict_of.ensures
          ∙ (ap (λ (h : NumberedStatement). verdict_by truth c.args.results.now.list h.statement h.ids.items) c.deref.ensures
          ∙ ap (λ (x : Cause). verdict_after x truth c.args.results.now.list row) (sym c.in-Fact.is));
      by_result = c.by_result_of.ensures
          ∙ (ap (λ (h : NumberedStatement). cond row.alone (each_verdict truth h.statement h.ids.items) row.by_result) c.deref-in-Fact.ensures
          ∙ ap (λ (x : Cause). by_result_after x truth row) (sym c.in-Fact.is));
    }
