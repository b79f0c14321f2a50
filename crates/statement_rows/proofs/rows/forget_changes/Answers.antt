use Rattle.std.proofs.Common.{ℕ, List, ap, ◌∙◌}
use Rattle.statement_rows.specs.Rows.{at_rows, forget_change}
use Rattle.statement_rows.proofs.RowLemmas.{all_known}
use Rattle.statement_rows.proofs.rows.forget_changes.Goals as goal

pub returns-clause-rows : goal.returns-clause-rows
returns-clause-rows c =
    c.forget_each.ensures.rows ∙ (ap (λ (ts : List ℕ). at_rows ts forget_change c.args.rows.now.items) (c.deref.ensures.value ∙ c.requires) ∙ all_known c.args.rows.now.items)
