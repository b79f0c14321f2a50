use Rattle.std.proofs.Common.{◌+◌, ◌≤◌, ℕ, List, sym, subst}
use Rattle.fact_rows.specs.declared.row.FactRow.{FactRow}
use Rattle.fact_rows.specs.Rows.{unchanged}
use Rattle.fact_rows.proofs.RowLemmas.{unmark_counts}
use Rattle.fact_rows.proofs.rows.clear_row.Goals as goal

pub returns-in-Some-clause-many : goal.returns-in-Some-clause-many
returns-in-Some-clause-many c =
    let rows = c.args.rows.now.entries in
    subst (λ (next : List (ℕ × FactRow)). unchanged next ≤ unchanged rows + 1) (sym (c.get_mut.follows.holds c.clear.new.self).0) (unmark_counts rows c.args.fact c.in-Some.row.now c.clear.new.self (sym c.in-Some.ensures.value))
